-- How a run of calls goes on from moment to moment, and what a crash leaves of a file that was quiet.
use Rattle.std.proofs.Common.{◌≡◌, ◌⊎◌, inl, inr, ℕ, ◌+◌, ◌-◌, ◌<◌, ◌≤◌, max, List, [], ◌∷◌, ◌++◌, length, take, drop, get_or, refl, sym, ◌∙◌, ap, subst, arith, append_assoc, length-append, length-take, length-drop, Option, Some, None, Result, Ok, Err}
use Rattle.std.proofs.lemmas.List.{append-nil, ext_get_or, get_or-take, get_or-drop, get_or_append_left, get_or-append_right}
use Rattle.outside.specs.declared.faults.OutFault.{OutFault}
use Rattle.outside.specs.declared.faults.OutFault.TheVariants as fault
use Rattle.outside.specs.declared.faults.Failed.{Failed as Fault}
use Rattle.disk_log.specs.declared.moment.Span.{Span}
use Rattle.disk_log.specs.declared.moment.Moment.{Moment}
use Rattle.disk_log.specs.Disk.{History, moments, later, IsOutside, IsImage, IsSettled, IsTorn, IsTouched, EachImage, LeavesOnly, IfTold, IsQuiet, Written, Wrote, Tried, Settles, Synced, HasExtent, with_bytes, IsPut, Put}

-- ---- runs

pub stays : (P : List ℕ → Type 0) (h : History) → ((c : List ℕ) → IsImage h.now c → P c) → LeavesOnly P h h
stays P h here = record { more = []; is = sym (append-nil (moments h)); each = (here, tt) }

each-append : (P : List ℕ → Type 0) (a b : List Moment) → EachImage P a → EachImage P b → EachImage P (a ++ b)
each-append P [] b x y = y
each-append P (m ∷ a) b x y = (x.0, each-append P a b x.1 y)

pub joined : (P : List ℕ → Type 0) (a b c : History) → LeavesOnly P a b → LeavesOnly P b c → LeavesOnly P a c
joined P a b c ab bc = record {
  more = ab.more ++ bc.more;
  is = bc.is ∙ ap (λ (l : List Moment). l ++ bc.more) ab.is ∙ append_assoc (moments a) ab.more bc.more;
  each = (ab.each.0, each-append P ab.more bc.more ab.each.1 bc.each.1);
}

-- one moment more
pub goes-on : (P : List ℕ → Type 0) (old mid : History) (m : Moment) → LeavesOnly P old mid → ((c : List ℕ) → IsImage m c → P c) → LeavesOnly P old (later mid m)
goes-on P old mid m so_far here = record {
  more = so_far.more ++ m ∷ [];
  is = ap (λ (l : List Moment). l ++ m ∷ []) so_far.is ∙ append_assoc (moments old) so_far.more (m ∷ []);
  each = (so_far.each.0, each-append P so_far.more (m ∷ []) so_far.each.1 (here, tt));
}

each-weaker : (P Q : List ℕ → Type 0) → ((c : List ℕ) → P c → Q c) → (ms : List Moment) → EachImage P ms → EachImage Q ms
each-weaker P Q so [] x = tt
each-weaker P Q so (m ∷ ms) x = (λ c image. so c (x.0 c image), each-weaker P Q so ms x.1)

pub weaker : (P Q : List ℕ → Type 0) (old new : History) → ((c : List ℕ) → P c → Q c) → LeavesOnly P old new → LeavesOnly Q old new
weaker P Q old new so leaves = record { more = leaves.more; is = leaves.is; each = each-weaker P Q so (old.now ∷ leaves.more) leaves.each }

-- ---- images

-- a crash leaves the stable bytes of a file that is quiet
pub settled-image : (m : Moment) (bytes : List ℕ) → IsSettled m bytes → (c : List ℕ) → IsImage m c → c ≡ bytes
settled-image m bytes s c image =
    let size : length c ≡ length bytes = omega (arith, ap length s.stable, image.no_shorter, image.no_longer, s.most) in
    ext_get_or 0 c bytes size
    (λ k lt.
    image.kept k (omega (arith, ap length s.stable)) (subst (λ (r : List Span). IsOutside r k) (sym s.ranges) tt)
    ∙ ap (λ (l : List ℕ). get_or l k 0) s.stable)

-- after a write or a try a crash leaves the stable bytes, with any bytes in the written range
pub touched-image : (m n : Moment) (bytes : List ℕ) (at count : ℕ) → IsSettled m bytes → IsTouched m n at count → (c : List ℕ) → IsImage n c → IsTorn at count bytes c
touched-image m n bytes at count s t c image =
    let stable : n.stable ≡ bytes = t.stable ∙ s.stable in
    let ranges : n.ranges ≡ record { at = at; count = count } ∷ [] = t.ranges ∙ ap (λ (r : List Span). r ++ record { at = at; count = count } ∷ []) s.ranges in
    record {
      no_shorter = omega (arith, ap length stable, image.no_shorter);
      no_longer = omega (arith, image.no_longer, t.most, s.most);
      kept = λ k lt out.
          image.kept k (omega (arith, ap length stable)) (subst (λ (r : List Span). IsOutside r k) (sym ranges) (out, tt))
          ∙ ap (λ (l : List ℕ). get_or l k 0) stable;
    }

pub torn-same : (at count : ℕ) (bytes : List ℕ) → IsTorn at count bytes bytes
torn-same at count bytes = record { no_shorter = omega arith; no_longer = omega arith; kept = λ k lt out. refl }

pub torn-front : (at count : ℕ) (old new : List ℕ) → IsTorn at count old new → (k : ℕ) → k ≤ at → k ≤ length old → take k new ≡ take k old
torn-front at count old new torn k le within =
    let size : length (take k new) ≡ length (take k old) = omega (arith, length-take k new, length-take k old, torn.no_shorter) in
    ext_get_or 0 (take k new) (take k old) size
    (λ i lt.
    let below : i < k = omega (arith, length-take k new) in
    get_or-take k new i 0 below ∙ torn.kept i (omega arith) (inl (omega arith)) ∙ sym (get_or-take k old i 0 below))

pub torn-back : (at count : ℕ) (old new : List ℕ) → IsTorn at count old new → at + count ≤ length old → drop (at + count) new ≡ drop (at + count) old
torn-back at count old new torn within =
    let same : length new ≡ length old = omega (arith, torn.no_shorter, torn.no_longer) in
    let size : length (drop (at + count) new) ≡ length (drop (at + count) old) = omega (arith, length-drop (at + count) new, length-drop (at + count) old) in
    ext_get_or 0 (drop (at + count) new) (drop (at + count) old) size
    (λ i lt.
    get_or-drop (at + count) new i 0
    ∙ torn.kept (at + count + i) (omega (arith, length-drop (at + count) new)) (inr (omega arith))
    ∙ sym (get_or-drop (at + count) old i 0))

-- what is written is torn nowhere
pub torn-written : (at : ℕ) (old bytes : List ℕ) → at ≤ length old → IsTorn at (length bytes) old (with_bytes old at bytes)
torn-written at old bytes le = record {
  no_shorter = omega (arith, size);
  no_longer = omega (arith, size);
  kept = λ k lt out. places k lt out;
}
  where
    size : length (with_bytes old at bytes) ≡ max (length old) (at + length bytes)
    size = omega (arith, length-append (take at old ++ bytes) (drop (at + length bytes) old), length-append (take at old) bytes, length-take at old, length-drop (at + length bytes) old)

    places : (k : ℕ) → k < length old → (k < at) ⊎ (at + length bytes ≤ k) → get_or (with_bytes old at bytes) k 0 ≡ get_or old k 0
    places k lt (inl before) =
        get_or_append_left (take at old ++ bytes) (drop (at + length bytes) old) 0 k (omega (arith, length-append (take at old) bytes, length-take at old))
        ∙ get_or_append_left (take at old) bytes 0 k (omega (arith, length-take at old))
        ∙ get_or-take at old k 0 before
    places k lt (inr behind) =
        let end : length (take at old ++ bytes) ≡ at + length bytes = omega (arith, length-append (take at old) bytes, length-take at old) in
        let there : at + length bytes + (k - (at + length bytes)) ≡ k = omega arith in
        get_or-append_right (take at old ++ bytes) (drop (at + length bytes) old) (at + length bytes) k 0 end behind
        ∙ get_or-drop (at + length bytes) old (k - (at + length bytes)) 0
        ∙ ap (λ (i : ℕ). get_or old i 0) there

-- ---- a write and a sync after it

pub put-refused : (old new : Option History) (at : ℕ) (bytes : List ℕ) (e : OutFault) → IfTold old IsQuiet → Written old new at bytes (Err e) → Put old new at bytes (Err e)
put-refused None new at bytes e quiet written = written
put-refused (Some h) new at bytes fault.Failed quiet (m, is, touched, torn) =
    let P = IsTorn at (length bytes) h.now.reads in
    let here : (c : List ℕ) → IsImage h.now c → P c = λ c image. subst P (sym (settled-image h.now h.now.reads quiet c image)) (torn-same at (length bytes) h.now.reads) in (
      later h m,
      is,
      record { torn = goes-on P h h m (stays P h here) (λ c image. touched-image h.now m h.now.reads at (length bytes) quiet touched c image); ended = torn },
    )
put-refused (Some h) new at bytes fault.OutOfMemory quiet is =
    let P = IsTorn at (length bytes) h.now.reads in
    let here : (c : List ℕ) → IsImage h.now c → P c = λ c image. subst P (sym (settled-image h.now h.now.reads quiet c image)) (torn-same at (length bytes) h.now.reads) in
    (h, is, record { torn = stays P h here; ended = refl })

abbrev P-of : History → ℕ → List ℕ → List ℕ → Type 0
P-of h at bytes = IsTorn at (length bytes) h.now.reads

-- the moments after the write
wrote-moments : (h : History) (m : Moment) (at : ℕ) (bytes : List ℕ) → IsQuiet h → IsTouched h.now m at (length bytes) → LeavesOnly (P-of h at bytes) h (later h m)
wrote-moments h m at bytes quiet touched =
    let here : (c : List ℕ) → IsImage h.now c → P-of h at bytes c = λ c image. subst (P-of h at bytes) (sym (settled-image h.now h.now.reads quiet c image)) (torn-same at (length bytes) h.now.reads) in
    goes-on (P-of h at bytes) h h m (stays (P-of h at bytes) h here) (λ c image. touched-image h.now m h.now.reads at (length bytes) quiet touched c image)

put-settled : (h : History) (m : Moment) (new : Option History) (at : ℕ) (bytes : List ℕ) → IsQuiet h → at ≤ length h.now.reads → IsTouched h.now m at (length bytes) → m.reads ≡ with_bytes h.now.reads at bytes → Settles (later h m) new → Put (Some h) new at bytes (Ok tt)
put-settled h m new at bytes quiet le touched reads (inl (n, is, settled)) =
    let there : IsSettled n (with_bytes h.now.reads at bytes) = subst (IsSettled n) reads settled in (
      later (later h m) n,
      is,
      record {
        torn = goes-on (P-of h at bytes) h (later h m) n (wrote-moments h m at bytes quiet touched) (λ c image. subst (P-of h at bytes) (sym (settled-image n (with_bytes h.now.reads at bytes) there c image)) (torn-written at h.now.reads bytes le));
        ended = there;
      },
    )
put-settled h m new at bytes quiet le touched reads (inr (is, settled)) =
    (later h m, is, record { torn = wrote-moments h m at bytes quiet touched; ended = subst (IsSettled m) reads settled })

pub put-done : (old mid new : Option History) (at : ℕ) (bytes : List ℕ) → IfTold old IsQuiet → IfTold old (λ h. at ≤ length h.now.reads) → Written old mid at bytes (Ok tt) → Synced mid new (Ok tt) → Put old new at bytes (Ok tt)
put-done None mid new at bytes quiet le written synced = subst (λ (o : Option History). Synced o new (Ok tt)) written synced
put-done (Some h) mid new at bytes quiet le (m, is, touched, reads) synced =
    let settles : Settles (later h m) new = subst (λ (o : Option History). Synced o new (Ok tt)) is synced in
    put-settled h m new at bytes quiet le touched reads settles

pub put-unsynced : (old mid new : Option History) (at : ℕ) (bytes : List ℕ) (f : Fault) → IfTold old IsQuiet → IfTold old (λ h. at ≤ length h.now.reads) → Written old mid at bytes (Ok tt) → Synced mid new (Err f) → Put old new at bytes (Err fault.Failed)
put-unsynced None mid new at bytes f quiet le written synced = subst (λ (o : Option History). Synced o new (Err f)) written synced
put-unsynced (Some h) mid new at bytes f quiet le (m, is, touched, reads) synced =
    let same : new ≡ Some (later h m) = subst (λ (o : Option History). Synced o new (Err f)) is synced in (
      later h m,
      same,
      record { torn = wrote-moments h m at bytes quiet touched; ended = subst (P-of h at bytes) (sym reads) (torn-written at h.now.reads bytes le) },
    )

-- the observable bytes are as many as the size says
pub within : (told : Option History) (extent at : ℕ) → HasExtent told extent → at ≤ extent → IfTold told (λ h. at ≤ length h.now.reads)
within None extent at has le = tt
within (Some h) extent at has le = omega arith
