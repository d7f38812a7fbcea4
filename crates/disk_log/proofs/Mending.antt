-- A gate that is open or missing, after the records that count.
use Rattle.std.proofs.Common.{◌≡◌, ◌≢◌, ◌⊎◌, inl, inr, ⊎_elim, ℕ, suc, ◌+◌, ◌-◌, ◌<◌, ◌≤◌, max, Bool, true, false, List, [], ◌∷◌, ◌++◌, length, take, drop, get_or, refl, sym, ◌∙◌, ap, subst, arith, append_assoc, length-append, length-take, length-drop, Option, Some, None, Result, Ok, Err}
use Rattle.std.proofs.lemmas.List.{take_at, get_or_at, append-nil, drop_at, drop_more, get_or-drop}
use Rattle.std.specs.Prelude.{nat_lt}
use Rattle.std.proofs.lemmas.Bool.Decides.{nat_tests}
use Rattle.outside.specs.declared.faults.OutFault.{OutFault}
use Rattle.outside.specs.declared.faults.OutFault.TheVariants as fault
use Rattle.disk_log.specs.Disk.{History, IsTorn, IsImage, IsSettled, IsQuiet, IfTold, LeavesOnly, IsPut, Put, HasExtent, IsGiven, with_bytes}
use Rattle.disk_log.specs.Log.{IsReady, IsMended, Mended, IsReadTo, ClosedIs}
use Rattle.disk_log.specs.Records.{Record, Whole, counted, count_in, records_to}
use Rattle.disk_log.proofs.Counting.{counted-closed, counted-short, counted-open, counted-whole}
use Rattle.disk_log.proofs.Gates.{split, split-size, counts-front, torn-gate, written-gate}
use Rattle.disk_log.proofs.Moments.{weaker, stays, torn-front, settled-image}
use Rattle.disk_log.proofs.Heads.{few}

lt-or-le : (m n : ℕ) → (m < n) ⊎ (n ≤ m)
lt-or-le m n = decide (nat_lt m n) refl
  where
    decide : (b : Bool) → nat_lt m n ≡ b → (m < n) ⊎ (n ≤ m)
    decide true is = inl (grind (arith, nat_tests))
    decide false is = inr (grind (arith, nat_tests))

-- after a gate that is open and from which nothing counts, nothing counts whatever the gate is
still-none : (gate : ℕ) (rest : List ℕ) → counted (1 ∷ rest) ≡ [] → counted (gate ∷ rest) ≡ []
still-none gate rest is = choice (lt-or-le (8 + count_in rest) (length rest))
  where
    choice : (8 + count_in rest < length rest) ⊎ (length rest ≤ 8 + count_in rest) → counted (gate ∷ rest) ≡ []
    choice (inl long) = absurd (omega (arith, ap length (sym (counted-open rest long) ∙ is)))
    choice (inr short) = counted-short gate rest short

module _ (h : History) (end : ℕ) (read : IsReadTo end h) where
  abbrev P : List ℕ → Type 0
  P = λ c. counted c ≡ counted h.now.reads

  here : (c : List ℕ) → IsImage h.now c → P c
  here c image = ap counted (settled-image h.now h.now.reads read.quiet c image)

  -- the gate is not open: nothing is done
  pub closed-already : end < length h.now.reads → get_or h.now.reads end 0 ≢ 1 → Mended (Some h) (Some h) end (Ok tt)
  closed-already lt shut = (h, refl, record { any_moment = stays P h here; front = refl; ready = (lt, record { quiet = read.quiet; closed = shut }) })

  -- it is open
  module _ (lt : end < length h.now.reads) (open-gate : get_or h.now.reads end 0 ≡ 1) where
    abbrev front : List ℕ
    front = take end h.now.reads

    abbrev rest : List ℕ
    rest = drop (end + 1) h.now.reads

    size : length front ≡ end
    size = split-size h.now.reads end lt

    parts : h.now.reads ≡ front ++ 1 ∷ rest
    parts = split h.now.reads end lt ∙ ap (λ (g : ℕ). front ++ g ∷ rest) open-gate

    none-behind : counted (1 ∷ rest) ≡ []
    none-behind = ap counted (sym (ap (λ (l : List ℕ). drop end l) parts ∙ drop_at front (1 ∷ rest) end size)) ∙ read.through

    torn-kept : (c : List ℕ) → IsTorn end 1 h.now.reads c → P c
    torn-kept c torn =
        let is = torn-gate front 1 rest end c size (subst (λ (l : List ℕ). IsTorn end 1 l c) parts torn) in
        ap counted is.1
        ∙ counted-whole front (records_to h.now.reads end) read.whole is.0 rest
        ∙ ap (λ (l : List Record). records_to h.now.reads end ++ l) (still-none is.0 rest none-behind)
        ∙ append-nil (records_to h.now.reads end)
        ∙ sym read.counts

    pub closes : (new : Option History) (result : Result (Unit {0}) OutFault) → Put (Some h) new end (0 ∷ []) result → Mended (Some h) new end result
    closes new (Ok _) (n, is, put) =
        let there : IsSettled n.now (front ++ 0 ∷ rest) =
        subst (λ (l : List ℕ). IsSettled n.now l) (ap (λ (l : List ℕ). with_bytes l end (0 ∷ [])) parts ∙ written-gate front 1 rest end 0 size) put.ended in (
          n,
          is,
          record {
            any_moment = weaker (IsTorn end 1 h.now.reads) P h n torn-kept put.torn;
            front = ap (λ (l : List ℕ). take end l) there.reads ∙ take_at front (0 ∷ rest) end size;
            ready = (
              omega (arith, ap length there.reads, length-append front (0 ∷ rest), size),
              record {
                quiet = subst (λ (l : List ℕ). IsSettled n.now l) (sym there.reads) there;
                closed = λ e. omega (arith, e, ap (λ (l : List ℕ). get_or l end 0) there.reads ∙ get_or_at front 0 rest 0 end size);
              },
            );
          },
        )
    closes new (Err fault.Failed) (n, is, put) = (
      n,
      is,
      record {
        any_moment = weaker (IsTorn end 1 h.now.reads) P h n torn-kept put.torn;
        front = torn-front end 1 h.now.reads n.now.reads put.ended end (omega arith) (omega (arith, lt));
        ready = tt;
      },
    )
    closes new (Err fault.OutOfMemory) (n, is, put) = (
      n,
      is,
      record {
        any_moment = weaker (IsTorn end 1 h.now.reads) P h n torn-kept put.torn;
        front = ap (λ (k : History). take end k.now.reads) put.ended;
        ready = tt;
      },
    )

  -- it is missing: the file is empty
  module _ (short : length h.now.reads ≤ end) where
    empty-end : end ≡ 0
    empty-end = ⊎_elim (λ z. z) (λ lt. omega (arith, lt)) read.gate

    empty : h.now.reads ≡ []
    empty = none-of h.now.reads (omega (arith, empty-end))
      where
        none-of : (l : List ℕ) → length l ≤ 0 → l ≡ []
        none-of [] le = refl
        none-of (x ∷ l) le = absurd (omega arith)

    torn-none : (c : List ℕ) → IsTorn end 1 h.now.reads c → P c
    torn-none c torn = few c (omega (arith, torn.no_longer, ap length empty, empty-end)) ∙ sym (ap counted empty)

    pub makes : (new : Option History) (result : Result (Unit {0}) OutFault) → Put (Some h) new end (0 ∷ []) result → Mended (Some h) new end result
    makes new (Ok _) (n, is, put) =
        let there : IsSettled n.now (0 ∷ []) =
        subst (λ (l : List ℕ). IsSettled n.now l) (ap (λ (l : List ℕ). with_bytes l end (0 ∷ [])) empty ∙ ap (λ (k : ℕ). with_bytes [] k (0 ∷ [])) empty-end) put.ended in (
          n,
          is,
          record {
            any_moment = weaker (IsTorn end 1 h.now.reads) P h n torn-none put.torn;
            front = ap (λ (k : ℕ). take k n.now.reads) empty-end ∙ sym (ap (λ (k : ℕ). take k h.now.reads) empty-end);
            ready = (
              omega (arith, ap length there.reads, empty-end),
              record {
                quiet = subst (λ (l : List ℕ). IsSettled n.now l) (sym there.reads) there;
                closed = λ e. omega (arith, e, ap (λ (l : List ℕ). get_or l end 0) there.reads ∙ ap (λ (k : ℕ). get_or (0 ∷ []) k 0) empty-end);
              },
            );
          },
        )
    makes new (Err fault.Failed) (n, is, put) = (
      n,
      is,
      record {
        any_moment = weaker (IsTorn end 1 h.now.reads) P h n torn-none put.torn;
        front = ap (λ (k : ℕ). take k n.now.reads) empty-end ∙ sym (ap (λ (k : ℕ). take k h.now.reads) empty-end);
        ready = tt;
      },
    )
    makes new (Err fault.OutOfMemory) (n, is, put) = (
      n,
      is,
      record {
        any_moment = weaker (IsTorn end 1 h.now.reads) P h n torn-none put.torn;
        front = ap (λ (k : History). take end k.now.reads) put.ended;
        ready = tt;
      },
    )

  pub mends : (new : Option History) (result : Result (Unit {0}) OutFault) → ClosedIs end h.now.reads false → Put (Some h) new end (0 ∷ []) result → Mended (Some h) new end result
  mends new result (inl short) put = makes short new result put
  mends new result (inr open-gate) put = ⊎_elim (λ lt. closes lt open-gate new result put) (λ short. makes short new result put) (lt-or-le end (length h.now.reads))

  -- it could not be read
  pub unread : (e : OutFault) → Mended (Some h) (Some h) end (Err e)
  unread e = (h, refl, record { any_moment = stays P h here; front = refl; ready = tt })

-- ---- the same, if the moments may be observable

pub told-closed : (old new : Option History) (end : ℕ) → new ≡ old → IfTold old (IsReadTo end) → IfTold old (λ h. ClosedIs end h.now.reads true) → Mended old new end (Ok tt)
told-closed None new end same read closed = same
told-closed (Some h) new end same read (lt, shut) = subst (λ (o : Option History). Mended (Some h) o end (Ok tt)) (sym same) (closed-already h end read lt shut)

pub told-unread : (old new : Option History) (end : ℕ) (e : OutFault) → new ≡ old → IfTold old (IsReadTo end) → Mended old new end (Err e)
told-unread None new end e same read = same
told-unread (Some h) new end e same read = subst (λ (o : Option History). Mended (Some h) o end (Err e)) (sym same) (unread h end read e)

pub told-mends : (old mid new : Option History) (end : ℕ) (result : Result (Unit {0}) OutFault) → mid ≡ old → IfTold old (IsReadTo end) → IfTold old (λ h. ClosedIs end h.now.reads false) → Put mid new end (0 ∷ []) result → Mended old new end result
told-mends None mid new end result same read closed put = subst (λ (o : Option History). Put o new end (0 ∷ []) result) same put
told-mends (Some h) mid new end result same read closed put = mends h end read new result closed (subst (λ (o : Option History). Put o new end (0 ∷ []) result) same put)

pub read-quiet : (old mid : Option History) (end : ℕ) → mid ≡ old → IfTold old (IsReadTo end) → IfTold mid IsQuiet
read-quiet None mid end same read = subst (λ (o : Option History). IfTold o IsQuiet) (sym same) tt
read-quiet (Some h) mid end same read = subst (λ (o : Option History). IfTold o IsQuiet) (sym same) read.quiet
