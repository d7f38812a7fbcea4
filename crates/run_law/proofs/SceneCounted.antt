-- A run executes no more than is held, and no more is held than there are records: so what it keeps can be encoded.
use Rattle.std.proofs.Common.{refl, sym, subst, ◌∙◌, append-nil, append_assoc, arith}
use Rattle.std.proofs.lemmas.List.{length-append}
use Rattle.std.specs.Prelude.{◌≡◌, ℕ, ◌+◌, ◌≤◌, zero, suc, Bool, true, false, cond, not, ◌&&◌, List, [], ◌∷◌, ◌++◌, fold, length, Option, Some, None, is_some}
use Rattle.digest_core.specs.declared.Digest.{Digest}
use Rattle.chain_types.specs.Equal.{digest_eq}
use Rattle.chain_types.specs.declared.objects.Object.{Object}
use Rattle.protocol_spec.specs.declared.pieces.Executed.{Executed}
use Rattle.journal_core.specs.declared.records.Record.{Record}
use Rattle.journal_core.specs.declared.records.Record.TheVariants as record_as
use Rattle.protocol_spec.specs.declared.answers.Held.{Held}
use Rattle.protocol_spec.proofs.Equality.{digest_self}
use Rattle.protocol_spec.proofs.Executions.{ready_once, stays_executed}
use Rattle.protocol_spec.specs.Chain.Words.{where_true}
use Rattle.protocol_spec.specs.Chain.Certificates.{Rules}
use Rattle.protocol_spec.specs.Chain.Keys.{fits}
use Rattle.protocol_spec.specs.Block.Execution.{execution, written_keys}
use Rattle.protocol_spec.specs.Member.Versions.{Execution, execution_of, is_executed, versions}
use Rattle.protocol_spec.specs.Member.Sequence.{What, takes, commits, counts, ignores, held_as, what_of}
use Rattle.protocol_spec.specs.Member.Checkpoints.{held_of}
use Rattle.protocol_spec.specs.Member.Rounds.{Books, clashes, executes_as, may_run, present, ready, ready_as, ready_on, round_add, round_among, round_of, rounds, rounds_within, writes_new}
use Rattle.protocol_spec.specs.Member.Member.{Member, after, fresh, held_with, state}

-- ---- what is executed stays so

last-executed : (xs : List Execution) (x : Execution) → is_executed (xs ++ x ∷ []) x.digest ≡ true
last-executed [] x = rw (digest_self x.digest) refl
last-executed (y ∷ xs) x = go (digest_eq y.digest x.digest) (last-executed xs x)
  where
    go : (b : Bool) → is_executed (xs ++ x ∷ []) x.digest ≡ true → is_some (cond b (Some y) (execution_of (xs ++ x ∷ []) x.digest)) ≡ true
    go true is = refl
    go false is = is

behind-executed : (xs ys : List Execution) (d : Digest) → is_executed ys d ≡ true → is_executed (xs ++ ys) d ≡ true
behind-executed [] ys d is = is
behind-executed (x ∷ xs) ys d is = go (digest_eq x.digest d) (behind-executed xs ys d is)
  where
    go : (b : Bool) → is_executed (xs ++ ys) d ≡ true → is_some (cond b (Some x) (execution_of (xs ++ ys) d)) ≡ true
    go true is = refl
    go false is = is

-- ---- what is held and not executed

abbrev waits_if : Bool → ℕ → ℕ
waits_if true n = n
waits_if false n = suc n

abbrev waiting : List Execution → List Held → ℕ
waiting executed [] = 0
waiting executed (h ∷ hs) = waits_if (is_executed executed h.digest) (waiting executed hs)

waiting-few : (executed : List Execution) (hs : List Held) → waiting executed hs ≤ length hs
waiting-few executed [] = omega arith
waiting-few executed (h ∷ hs) = go (is_executed executed h.digest) (waiting-few executed hs)
  where
    go : (b : Bool) → waiting executed hs ≤ length hs → waits_if b (waiting executed hs) ≤ suc (length hs)
    go true le = omega (arith, le)
    go false le = omega (arith, le)

-- what executes a certificate goes by its digest
abbrev IsOf : Held → Option Execution → Type 0
IsOf h None = Unit {0}
IsOf h (Some x) = x.digest ≡ h.digest

ready-of : (b : Books) (executed : List Execution) (h : Held) → IsOf h (ready b executed h)
unfolding ready
ready-of b executed h = where-on (not (is_executed executed h.digest) && may_run b h) (present b executed h)
  where
    where-as : (gave : Executed) (ok : Bool) → IsOf h (where_true ok (executes_as h gave))
    where-as gave true = refl
    where-as gave false = tt

    where-fits : (objects : List Object) (ok : Bool) → IsOf h (cond ok (ready_as b executed h (execution h.cert.tx objects)) None)
    where-fits objects true = where-as (execution h.cert.tx objects) (writes_new (versions b.opening executed) (written_keys (execution h.cert.tx objects)))
    where-fits objects false = tt

    where-there : (there : Option (List Object)) → IsOf h (ready_on b executed h there)
    where-there None = tt
    where-there (Some objects) = where-fits objects (fits h.cert.tx objects)

    where-on : (ok : Bool) (there : Option (List Object)) → IsOf h (cond ok (ready_on b executed h there) None)
    where-on true there = where-there there
    where-on false there = tt

-- the round is a prefix of what becomes of it
round-front : (b : Books) (executed round : List Execution) (hs : List Held) → (rest : List Execution) × (round_among b executed round hs ≡ round ++ rest)
round-front b executed round [] = ([], sym (append-nil round))
round-front b executed round (h ∷ hs) = go (ready b executed h) (round-front b executed (round_add round (ready b executed h)) hs)
  where
    go : (x : Option Execution) → (rest : List Execution) × (round_among b executed (round_add round x) hs ≡ round_add round x ++ rest) → (rest : List Execution) × (round_among b executed (round_add round x) hs ≡ round ++ rest)
    go None found = found
    go (Some x) found = by-clash (clashes round x) found
      where
        by-clash : (c : Bool) → (rest : List Execution) × (round_among b executed (cond c round (round ++ x ∷ [])) hs ≡ cond c round (round ++ x ∷ []) ++ rest)
            → (rest : List Execution) × (round_among b executed (cond c round (round ++ x ∷ [])) hs ≡ round ++ rest)
        by-clash true found = found
        by-clash false found = (x ∷ found.0, found.1 ∙ append_assoc round (x ∷ []) found.0)

module _ (b : Books) (executed : List Execution) where
  -- this many more were executed, and this many no longer wait
  abbrev Counts : List Execution → List Execution → List Held → Type 0
  Counts round done hs = length done + waiting (executed ++ done) hs ≤ length round + waiting executed hs

  one-more : (h : Held) (hs : List Held) (n round done : ℕ) (was is : Bool) → (was ≡ true → is ≡ true) → done + n ≤ round + waiting executed hs → done + waits_if is n ≤ round + waits_if was (waiting executed hs)
  one-more h hs n round done true true stays le = le
  one-more h hs n round done true false stays le = absurd (let e = stays refl in cc)
  one-more h hs n round done false true stays le = omega (arith, le)
  one-more h hs n round done false false stays le = omega (arith, le)

  was-waiting : (h : Held) (x : Execution) (is : Bool) → ready b executed h ≡ Some x → is_executed executed h.digest ≡ is → is_executed executed h.digest ≡ false
  was-waiting h x false ready_ at = at
  was-waiting h x true ready_ at = absurd (let none = ready_once b executed h at in cc)

  module _ (h : Held) (hs : List Held) (more : (round : List Execution) → Counts round (round_among b executed round hs) hs) where
    abbrev with_round : List Execution → List Execution
    with_round next = round_among b executed next hs

    -- nothing is added
    none-added : (round : List Execution) → Counts round (with_round round) (h ∷ hs)
    none-added round =
        one-more h hs (waiting (executed ++ with_round round) hs) (length round) (length (with_round round)) (is_executed executed h.digest) (is_executed (executed ++ with_round round) h.digest)
        (stays_executed executed (with_round round) h.digest) (more round)

    -- its execution is added, so it no longer waits
    one-added : (round : List Execution) (x : Execution) → x.digest ≡ h.digest → is_executed executed h.digest ≡ false → Counts round (with_round (round ++ x ∷ [])) (h ∷ hs)
    one-added round x same waits =
        let done = with_round (round ++ x ∷ []) in
        let front = round-front b executed (round ++ x ∷ []) hs in
        let there : is_executed (executed ++ done) h.digest ≡ true =
        behind-executed executed done h.digest
        (subst (λ (l : List Execution). is_executed l h.digest ≡ true) (sym front.1)
        (stays_executed (round ++ x ∷ []) front.0 h.digest (subst (λ (d : Digest). is_executed (round ++ x ∷ []) d ≡ true) same (last-executed round x)))) in
        let long = length-append round (x ∷ []) in
        let counts = more (round ++ x ∷ []) in
        let le : length done + waiting (executed ++ done) hs ≤ length round + suc (waiting executed hs) = omega (arith, counts, long) in
        let one : length done + waits_if (is_executed (executed ++ done) h.digest) (waiting (executed ++ done) hs) ≤ length round + suc (waiting executed hs) =
        subst (λ (is : Bool). length done + waits_if is (waiting (executed ++ done) hs) ≤ length round + suc (waiting executed hs)) (sym there) le in
        subst (λ (was : Bool). length done + waits_if (is_executed (executed ++ done) h.digest) (waiting (executed ++ done) hs) ≤ length round + waits_if was (waiting executed hs)) (sym waits) one

    by-clash : (round : List Execution) (x : Execution) → x.digest ≡ h.digest → is_executed executed h.digest ≡ false → (c : Bool) → Counts round (with_round (cond c round (round ++ x ∷ []))) (h ∷ hs)
    by-clash round x same waits true = none-added round
    by-clash round x same waits false = one-added round x same waits

    by-ready : (round : List Execution) (x : Option Execution) → ready b executed h ≡ x → Counts round (with_round (round_add round x)) (h ∷ hs)
    by-ready round None is = none-added round
    by-ready round (Some x) is =
        by-clash round x (subst (λ (y : Option Execution). IsOf h y) is (ready-of b executed h)) (was-waiting h x (is_executed executed h.digest) is refl) (clashes round x)

  counts-among : (hs : List Held) (round : List Execution) → Counts round (round_among b executed round hs) hs
  counts-among [] round = omega arith
  counts-among (h ∷ hs) round = by-ready h hs (counts-among hs) round (ready b executed h) refl

one-round : (b : Books) (executed : List Execution) → length (round_of b executed) + waiting (executed ++ round_of b executed) b.held ≤ waiting executed b.held
unfolding round_of
one-round b executed = let le = counts-among b executed b.held [] in omega (arith, le)

some-rounds : (n : ℕ) (b : Books) (executed : List Execution) → length (rounds_within n b executed) ≤ waiting executed b.held
some-rounds zero b executed = omega arith
some-rounds (suc n) b executed =
    let one = one-round b executed in
    let rest = some-rounds n b (executed ++ round_of b executed) in
    let all = length-append (round_of b executed) (rounds_within n b (executed ++ round_of b executed)) in
    omega (arith, one, rest, all)

pub few-rounds : (b : Books) (executed : List Execution) → length (rounds b executed) ≤ length b.held
unfolding rounds
few-rounds b executed =
    let some = some-rounds (length b.held) b executed in
    let few = waiting-few executed b.held in
    omega (arith, some, few)

-- ---- no more is held than there are records

abbrev HoldsFew : Member → Type 0
HoldsFew m = length m.held ≤ m.records

held-more : (held : List Held) (w : What) → length (held_with held w) ≤ suc (length held)
held-more held (takes h) = go (is_some (held_of held h.digest))
  where
    go : (b : Bool) → length (cond b held (held ++ h ∷ [])) ≤ suc (length held)
    go true = omega arith
    go false = let same = length-append held (h ∷ []) in omega (arith, same)
held-more held commits = omega arith
held-more held (counts member) = omega arith
held-more held (ignores cause) = omega arith

few-after : (r : Rules) (m : Member) (x : Record) → HoldsFew m → HoldsFew (after r m x)
unfolding after
few-after r m (record_as.Vote tx origins) few = omega (arith, few)
few-after r m (record_as.Hold c) few = let same = length-append m.held (held_as c ∷ []) in omega (arith, few, same)
few-after r m (record_as.See bytes) few = let le = held-more m.held (what_of r m.epoch m.sequence bytes) in omega (arith, few, le)
few-after r m record_as.Close few = omega (arith, few)
few-after r m (record_as.Ran txs) few = omega (arith, few)
few-after r m record_as.Turn few = omega arith
few-after r m (record_as.Ran2 items) few = omega (arith, few)

few-from : (r : Rules) (m : Member) (records : List Record) → HoldsFew m → HoldsFew (fold (after r) m records)
few-from r m [] few = few
few-from r m (x ∷ records) few = few-from r (after r m x) records (few-after r m x few)

pub holds-few : (r : Rules) (opening : List Object) (records : List Record) → HoldsFew (state r opening records)
unfolding state
holds-few r opening records = few-from r (fresh opening) records (omega arith)
