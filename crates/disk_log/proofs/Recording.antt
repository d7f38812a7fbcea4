-- A record that is put after a gate, which is then opened.
use Rattle.std.proofs.Common.{◌≡◌, ◌≢◌, ◌⊎◌, inl, inr, ⊎_elim, ℕ, ◌+◌, ◌-◌, ◌*◌, ◌^◌, ◌<◌, ◌≤◌, max, List, [], ◌∷◌, ◌++◌, length, take, drop, get_or, refl, sym, ◌∙◌, ap, subst, arith, append_assoc, length-append, length-take, length-drop, Option, Some, None, Result, Ok, Err}
use Rattle.std.specs.Prelude.{MatchResult}
use Rattle.std.proofs.lemmas.List.{take_at, get_or_at}
use Rattle.outside.specs.declared.faults.OutFault.{OutFault}
use Rattle.outside.specs.declared.faults.OutFault.TheVariants as fault
use Rattle.wire_bcs.specs.Little.{value_of}
use Rattle.disk_log.specs.Disk.{History, IsTorn, IsSettled, IsQuiet, IfTold, LeavesOnly, IsPut, Put, with_bytes}
use Rattle.disk_log.specs.Log.{HasOldOrNew, IsAtGate, IsReady, IsAdded, IsRecorded, Recorded, after_fault}
use Rattle.disk_log.specs.Records.{Record, records_to, head_of, body_of}
use Rattle.disk_log.proofs.Gates.{split, split-size, length-head, head-count, head-member, counts-front, counts-gate, torn-behind, torn-gate, written-behind, written-gate}
use Rattle.disk_log.proofs.Moments.{weaker, joined, torn-front}

quiet-is : (h : History) (bytes : List ℕ) → IsSettled h.now bytes → IsQuiet h
quiet-is h bytes s = subst (λ (l : List ℕ). IsSettled h.now l) (sym s.reads) s

module _ (old : History) (end member : ℕ) (bytes : List ℕ) (at : IsAtGate end old) (short : length bytes < 256 ^ 4) (fits : member < 256 ^ 4) where
  abbrev front : List ℕ
  front = take end old.now.reads

  abbrev gate : ℕ
  gate = get_or old.now.reads end 0

  abbrev rest : List ℕ
  rest = drop (end + 1) old.now.reads

  abbrev records : List Record
  records = records_to old.now.reads end

  abbrev P : List ℕ → Type 0
  P = HasOldOrNew records (record { member = member; bytes = bytes })

  size : length front ≡ end
  size = split-size old.now.reads end at.whole.inside

  parts : old.now.reads ≡ front ++ gate ∷ rest
  parts = split old.now.reads end at.whole.inside

  -- the first write, after the gate
  behind : (c : List ℕ) → IsTorn (end + 1) (length (body_of member bytes)) old.now.reads c → P c
  behind c torn =
      let is = torn-behind front gate rest end (length (body_of member bytes)) c size (subst (λ (l : List ℕ). IsTorn (end + 1) (length (body_of member bytes)) l c) parts torn) in
      subst P (sym is.1) (inl (counts-front front records at.whole.whole gate is.0 at.ready.closed))

  pub refused : (new : Option History) (e : OutFault) → Put (Some old) new (end + 1) (body_of member bytes) (Err e) → Recorded (Some old) new end member bytes (Err e)
  refused new fault.Failed (h, is, put) = (
    h,
    is,
    record {
      any_moment = weaker (IsTorn (end + 1) (length (body_of member bytes)) old.now.reads) P old h behind put.torn;
      front = torn-front (end + 1) (length (body_of member bytes)) old.now.reads h.now.reads put.ended end (omega arith) (omega (arith, at.whole.inside));
      inside = omega (arith, at.whole.inside, put.ended.no_shorter);
      ended = tt;
    },
  )
  refused new fault.OutOfMemory (h, is, put) = (
    h,
    is,
    record {
      any_moment = weaker (IsTorn (end + 1) (length (body_of member bytes)) old.now.reads) P old h behind put.torn;
      front = ap (λ (k : History). take end k.now.reads) put.ended;
      inside = subst (λ (k : History). end < length k.now.reads) (sym put.ended) at.whole.inside;
      ended = subst (λ (k : History). IsReady k end) (sym put.ended) at.ready;
    },
  )

  -- after it the record stands whole, and the gate is as it was
  abbrev junk : List ℕ
  junk = drop (length (body_of member bytes)) rest

  abbrev tail : List ℕ
  tail = head_of member bytes ++ (bytes ++ 0 ∷ junk)

  staged : with_bytes old.now.reads (end + 1) (body_of member bytes) ≡ front ++ gate ∷ tail
  staged =
      ap (λ (l : List ℕ). with_bytes l (end + 1) (body_of member bytes)) parts
      ∙ written-behind front gate rest end (body_of member bytes) size
      ∙ ap (λ (l : List ℕ). front ++ gate ∷ l) (append_assoc (head_of member bytes ++ bytes) (0 ∷ []) junk ∙ append_assoc (head_of member bytes) bytes (0 ∷ junk))

  -- the second write, of the gate
  opened : (c : List ℕ) → IsTorn end 1 (front ++ gate ∷ tail) c → P c
  opened c torn =
      let is = torn-gate front gate tail end c size torn in
      let counts = counts-gate front records at.whole.whole is.0 (head_of member bytes) bytes junk (length-head member bytes) (head-count member bytes short) in
      subst P (sym is.1) (subst (λ (m : ℕ). HasOldOrNew records (record { member = m; bytes = bytes }) (front ++ is.0 ∷ tail)) (head-member member bytes fits) counts)

  front-of : (g : ℕ) → take end (front ++ g ∷ tail) ≡ front
  front-of g = take_at front (g ∷ tail) end size

  long : (g : ℕ) → length (front ++ g ∷ tail) ≡ end + 10 + length bytes + length junk
  long g = omega (arith, length-append front (g ∷ tail), size, length-append (head_of member bytes) (bytes ++ 0 ∷ junk), length-head member bytes, length-append bytes (0 ∷ junk))

  -- the file with the record, as the prefix that it makes and the gate after it
  regrouped : front ++ 1 ∷ tail ≡ (front ++ 1 ∷ (head_of member bytes ++ bytes)) ++ 0 ∷ junk
  regrouped =
      ap (λ (l : List ℕ). front ++ 1 ∷ l) (sym (append_assoc (head_of member bytes) bytes (0 ∷ junk)))
      ∙ sym (append_assoc front (1 ∷ (head_of member bytes ++ bytes)) (0 ∷ junk))

  new-size : length (front ++ 1 ∷ (head_of member bytes ++ bytes)) ≡ end + 9 + length bytes
  new-size = omega (arith, length-append front (1 ∷ (head_of member bytes ++ bytes)), size, length-append (head_of member bytes) bytes, length-head member bytes)

  added : (h : History) → IsSettled h.now (front ++ 1 ∷ tail) → IsAdded old h end member bytes
  added h s = record {
    front = ap (λ (l : List ℕ). take (end + 9 + length bytes) l) (s.reads ∙ regrouped) ∙ take_at (front ++ 1 ∷ (head_of member bytes ++ bytes)) (0 ∷ junk) (end + 9 + length bytes) new-size;
    inside = omega (arith, ap length s.reads, long 1);
    ready = record {
      quiet = quiet-is h (front ++ 1 ∷ tail) s;
      closed = λ is.
          let zero-there : get_or h.now.reads (end + 9 + length bytes) 0 ≡ 0 =
          ap (λ (l : List ℕ). get_or l (end + 9 + length bytes) 0) (s.reads ∙ regrouped) ∙ get_or_at (front ++ 1 ∷ (head_of member bytes ++ bytes)) 0 junk 0 (end + 9 + length bytes) new-size in
          omega (arith, is, zero-there);
    };
  }

  -- the state between the two writes
  module _ (mid : History) (put : IsPut old mid (end + 1) (body_of member bytes) (Ok tt)) where
    pub mid-reads : IsSettled mid.now (front ++ gate ∷ tail)
    mid-reads = subst (λ (l : List ℕ). IsSettled mid.now l) staged put.ended

    first : LeavesOnly P old mid
    first = weaker (IsTorn (end + 1) (length (body_of member bytes)) old.now.reads) P old mid behind put.torn

    both : (new : History) → LeavesOnly (IsTorn end 1 mid.now.reads) mid new → LeavesOnly P old new
    both new torn = joined P old mid new first (weaker (IsTorn end 1 mid.now.reads) P mid new (λ c t. opened c (subst (λ (l : List ℕ). IsTorn end 1 l c) mid-reads.reads t)) torn)

    mid-front : take end mid.now.reads ≡ front
    mid-front = ap (λ (l : List ℕ). take end l) mid-reads.reads ∙ front-of gate

    mid-inside : end < length mid.now.reads
    mid-inside = omega (arith, ap length mid-reads.reads, long gate)

    mid-ready : IsReady mid end
    mid-ready = record {
      quiet = quiet-is mid (front ++ gate ∷ tail) mid-reads;
      closed = λ is. at.ready.closed (sym (ap (λ (l : List ℕ). get_or l end 0) mid-reads.reads ∙ get_or_at front gate tail 0 end size) ∙ is);
    }

    pub recorded : (new : Option History) (result : Result (Unit {0}) OutFault) → Put (Some mid) new end (1 ∷ []) result → Recorded (Some old) new end member bytes result
    recorded new (Ok _) (h, is, put') =
        let there : IsSettled h.now (front ++ 1 ∷ tail) =
        subst (λ (l : List ℕ). IsSettled h.now l) (ap (λ (l : List ℕ). with_bytes l end (1 ∷ [])) mid-reads.reads ∙ written-gate front gate tail end 1 size) put'.ended in (
          h,
          is,
          record {
            any_moment = both h put'.torn;
            front = ap (λ (l : List ℕ). take end l) there.reads ∙ front-of 1;
            inside = omega (arith, ap length there.reads, long 1);
            ended = added h there;
          },
        )
    recorded new (Err fault.Failed) (h, is, put') = (
      h,
      is,
      record {
        any_moment = both h put'.torn;
        front = torn-front end 1 mid.now.reads h.now.reads put'.ended end (omega arith) (omega (arith, mid-inside)) ∙ mid-front;
        inside = omega (arith, mid-inside, put'.ended.no_shorter);
        ended = tt;
      },
    )
    recorded new (Err fault.OutOfMemory) (h, is, put') = (
      h,
      is,
      record {
        any_moment = both h put'.torn;
        front = ap (λ (k : History). take end k.now.reads) put'.ended ∙ mid-front;
        inside = subst (λ (k : History). end < length k.now.reads) (sym put'.ended) mid-inside;
        ended = subst (λ (k : History). IsReady k end) (sym put'.ended) mid-ready;
      },
    )

-- ---- the same, if the moments may be observable

pub record-refused : (old new : Option History) (end member : ℕ) (bytes body : List ℕ) (e : OutFault) → body ≡ body_of member bytes → IfTold old (IsAtGate end) → length bytes < 256 ^ 4 → member < 256 ^ 4 → Put old new (end + 1) body (Err e) → Recorded old new end member bytes (Err e)
record-refused None new end member bytes body e is at short fits put = put
record-refused (Some h) new end member bytes body e is at short fits put =
    refused h end member bytes at short fits new e (subst (λ (l : List ℕ). Put (Some h) new (end + 1) l (Err e)) is put)

-- after a put all is stable
pub put-quiet : (old mid : Option History) (at : ℕ) (bytes : List ℕ) → Put old mid at bytes (Ok tt) → IfTold mid IsQuiet
put-quiet None mid at bytes put = subst (λ (o : Option History). IfTold o IsQuiet) (sym put) tt
put-quiet (Some h) mid at bytes (m, is, put) = subst (λ (o : Option History). IfTold o IsQuiet) (sym is) (quiet-is m (with_bytes h.now.reads at bytes) put.ended)

pub gate-quiet : (old : Option History) (end : ℕ) → IfTold old (IsAtGate end) → IfTold old IsQuiet
gate-quiet None end at = tt
gate-quiet (Some h) end at = at.ready.quiet

pub record-done : (old mid new : Option History) (end member : ℕ) (bytes body : List ℕ) (result : Result (Unit {0}) OutFault) → body ≡ body_of member bytes → IfTold old (IsAtGate end) → length bytes < 256 ^ 4 → member < 256 ^ 4 → Put old mid (end + 1) body (Ok tt) → Put mid new end (1 ∷ []) result → Recorded old new end member bytes result
record-done None mid new end member bytes body result is at short fits put put' = subst (λ (o : Option History). Put o new end (1 ∷ []) result) put put'
record-done (Some h) mid new end member bytes body result is at short fits (m, same, put) put' =
    recorded h end member bytes at short fits m (subst (λ (l : List ℕ). IsPut h m (end + 1) l (Ok tt)) is put) new result
    (subst (λ (o : Option History). Put o new end (1 ∷ []) result) same put')
