-- Each execution of a member is explained by what it held and executed before.
use Rattle.std.proofs.Common.{inl, inr, refl, sym, subst, ap, ◌∙◌}
use Rattle.std.specs.Prelude.{◌≡◌, ℕ, zero, suc, Bool, true, false, cond, not, ◌&&◌, ◌||◌, List, [], ◌∷◌, ◌++◌, map, find, flat_map, zip, length, slice_get, Option, Some, None, option_map, is_some}
use Rattle.std.specs.List.{list_any}
use Rattle.digest_core.specs.declared.Digest.{Digest}
use Rattle.chain_types.specs.declared.objects.Object.{Object}
use Rattle.chain_types.specs.declared.transactions.Input.TheVariants as inputs
use Rattle.chain_types.specs.declared.transactions.Transaction.{Transaction}
use Rattle.journal_core.specs.declared.records.Record.{Record}
use Rattle.journal_core.specs.declared.records.Record.TheVariants as record_as
use Rattle.protocol_spec.specs.declared.answers.Assigned.{Assigned}
use Rattle.protocol_spec.specs.declared.answers.Held.{Held}
use Rattle.schedule_text.specs.declared.words.Event.{Event}
use Rattle.chain_types.specs.Equal.{digest_eq, key_eq}
use Rattle.protocol_spec.proofs.Executions.{versions_more, same_wants}
use Rattle.protocol_spec.specs.Chain.Words.{Has, Along, IsFront, all_some, onto_some, where_true, repeats}
use Rattle.protocol_spec.specs.Chain.Keys.{objects_of, has_shared_input, fits}
use Rattle.protocol_spec.specs.Chain.Certificates.{Rules}
use Rattle.protocol_spec.proofs.ListLemmas.{along-push, and-second, not-true, find_front, any_front, along_join, has_left, front_whole}
use Rattle.protocol_spec.specs.Block.Execution.{execution, written_keys}
use Rattle.protocol_spec.specs.Member.Versions.{Execution, Version, written_by, versions, object_in, is_executed}
use Rattle.protocol_spec.specs.Member.Admission.{Admitted, Admission, is_admitted, joined_inputs, assigned_in, assigned_of}
use Rattle.protocol_spec.specs.Member.Sequence.{What, takes, commits, counts, ignores, what_of}
use Rattle.protocol_spec.specs.Member.Rounds.{Books, Wanted, wanted_by, wants_of, is_wanted, found, present, may_run, holds_key, writes_new, executes_as, ready_as, ready_on, ready, clashes, round_add, round_among, round_of, rounds_within, rounds}
use Rattle.protocol_spec.specs.Member.Checkpoints.{held_of}
use Rattle.protocol_spec.specs.Member.Member.{Member, books, held_with, after, state}
use Rattle.world_spec.specs.Setting.{Setting}
use Rattle.world_spec.specs.World.{Seat, member_in}
use Rattle.world_spec.specs.Run.{world_after}
use Rattle.safety_law.proofs.InWorld.{in_world}
use Rattle.safety_law.proofs.Apart.{state-push}
use Rattle.safety_law.specs.Explained.{IsExplained}
use Rattle.safety_law.proofs.Prefixes.{earlier-saw}

-- ---- lists

along-map : {A : Type 0} (P Q : List A → A → Type 0) → ((before : List A) (x : A) → P before x → Q before x) → (before xs : List A) → Along P before xs → Along Q before xs
along-map P Q h before [] along = tt
along-map P Q h before (x ∷ xs) along = (h before x along.0, along-map P Q h (before ++ x ∷ []) xs along.1)

any-found : {A : Type 0} (test : A → Bool) (xs : List A) → list_any test xs ≡ true → (x : A) × (find test xs ≡ Some x)
any-found test [] e = absurd (cc)
any-found {A = A} test (z ∷ xs) e = go (test z) e (any-found test xs)
  where
    go : (b : Bool) → (b || list_any test xs) ≡ true → (list_any test xs ≡ true → (x : A) × (find test xs ≡ Some x)) → (x : A) × (cond b (Some z) (find test xs) ≡ Some x)
    go true e rest = (z, refl)
    go false e rest = rest e

-- ---- more executions

pub found-more : (held more : List Version) (w : Wanted) (o : Object) → found held w ≡ Some o → found (held ++ more) w ≡ Some o
found-more held more w o e = go (find (is_wanted w.key w.producer) held) refl e
  where
    go : (f : Option Version) → find (is_wanted w.key w.producer) held ≡ f → option_map object_in f ≡ Some o → found (held ++ more) w ≡ Some o
    go None h e = absurd (cc)
    go (Some v) h e = ap (option_map object_in) (find_front (is_wanted w.key w.producer) held more v h) ∙ e

-- the parts of a list of values that are all there
pub some-parts : {A : Type 0} (f : Option A) (fs : List (Option A)) (os : List A) → all_some (f ∷ fs) ≡ Some os → (o : A) × (rest : List A) × (f ≡ Some o) × (all_some fs ≡ Some rest) × (Some (o ∷ rest) ≡ Some os)
some-parts None fs os e = absurd (cc)
some-parts {A = A} (Some o) fs os e = go (all_some fs) refl e
  where
    go : (r : Option (List A)) → all_some fs ≡ r → onto_some o r ≡ Some os → (p : A) × (rest : List A) × (Some o ≡ Some p) × (all_some fs ≡ Some rest) × (Some (p ∷ rest) ≡ Some os)
    go None k e = absurd (cc)
    go (Some rest) k e = (o, rest, refl, k, e)

some-join : {A : Type 0} (f : Option A) (fs : List (Option A)) (o : A) (rest : List A) → f ≡ Some o → all_some fs ≡ Some rest → all_some (f ∷ fs) ≡ Some (o ∷ rest)
some-join None fs o rest e k = absurd (cc)
some-join {A = A} (Some p) fs o rest e k = ap (onto_some p) k ∙ same e
  where
    same : Some p ≡ Some o → Some (p ∷ rest) ≡ Some (o ∷ rest)
    same e = cc

pub all-found : (held more : List Version) (ws : List Wanted) (os : List Object) → all_some (map (found held) ws) ≡ Some os → all_some (map (found (held ++ more)) ws) ≡ Some os
all-found held more [] os e = e
all-found held more (w ∷ ws) os e =
    let parts = some-parts (found held w) (map (found held) ws) os e in
    some-join (found (held ++ more) w) (map (found (held ++ more)) ws) parts.0 parts.1 (found-more held more w parts.0 parts.2) (all-found held more ws parts.1 parts.3) ∙ parts.4

-- ---- more admitted

same-owned : (t : Transaction) (os : List (Option Digest)) (a b : Option (List Assigned)) → has_shared_input t ≡ false → map (wanted_by a) (zip (objects_of t) os) ≡ map (wanted_by b) (zip (objects_of t) os)
same-owned t [] a b none = refl
same-owned t (o ∷ os) a b none = ap (λ ws. wanted_by a (inputs.Owned t.gas, o) ∷ ws) (same_wants t.inputs os a b none)

-- what is assigned to an admitted transaction stays
same-assigned : (a b : Admission) (tx : Digest) → IsFront a.admitted b.admitted → is_admitted a.admitted tx ≡ true → assigned_of b tx ≡ assigned_of a tx
unfolding assigned_of
same-assigned a b tx (rest, e) there =
    let x = any-found (λ (y : Admitted). digest_eq y.digest tx) a.admitted there in
    ap (λ (admitted : List Admitted). option_map assigned_in (find (λ (y : Admitted). digest_eq y.digest tx) admitted)) e
    ∙ ap (option_map assigned_in) (find_front (λ (y : Admitted). digest_eq y.digest tx) a.admitted rest x.0 x.1 ∙ sym x.1)

abbrev pub May : Admission → Held → Type 0
May a h = (not (has_shared_input h.cert.tx) || is_admitted a.admitted h.digest) ≡ true

pub wants-same : (a b : Admission) (h : Held) → IsFront a.admitted b.admitted → May a h → wants_of b h ≡ wants_of a h
unfolding wants_of
wants-same a b h front may = go (has_shared_input h.cert.tx) refl (is_admitted a.admitted h.digest) refl may
  where
    go : (s : Bool) → has_shared_input h.cert.tx ≡ s → (d : Bool) → is_admitted a.admitted h.digest ≡ d → (not s || d) ≡ true → map (wanted_by (assigned_of b h.digest)) (joined_inputs h.cert) ≡ map (wanted_by (assigned_of a h.digest)) (joined_inputs h.cert)
    go false none d there e = same-owned h.cert.tx h.cert.origins (assigned_of b h.digest) (assigned_of a h.digest) none
    go true none true there e = ap (λ (assigned : Option (List Assigned)). map (wanted_by assigned) (joined_inputs h.cert)) (same-assigned a b h.digest front there)
    go true none false there e = absurd (cc)

may-more : (a b : Admission) (h : Held) → IsFront a.admitted b.admitted → May a h → May b h
may-more a b h (rest, q) may = go (not (has_shared_input h.cert.tx)) (is_admitted a.admitted h.digest) refl may
  where
    go : (s d : Bool) → is_admitted a.admitted h.digest ≡ d → (s || d) ≡ true → (s || is_admitted b.admitted h.digest) ≡ true
    go true d there e = refl
    go false true there e = subst (λ (admitted : List Admitted). is_admitted admitted h.digest ≡ true) (sym q) (any_front (λ (y : Admitted). digest_eq y.digest h.digest) a.admitted rest there)
    go false false there e = absurd (cc)

-- ---- an explanation stays

pub explained-more : (b : Books) (before more : List Execution) (x : Execution) → IsExplained b before x → IsExplained b (before ++ more) x
unfolding present
explained-more b before more x it = record {
  of = it.of;
  inputs = it.inputs;
  is_held = it.is_held;
  may = it.may;
  fit = it.fit;
  is = it.is;
  once = it.once;
  were_there = subst (λ (held : List Version). all_some (map (found held) (wants_of b.admission it.of)) ≡ Some it.inputs) (sym (versions_more b.opening before more)) (all-found (versions b.opening before) (flat_map written_by more) (wants_of b.admission it.of) it.inputs it.were_there);
}

explained-books : (opening : List Object) (held longer : List Held) (a b : Admission) → ((h : Held) → Has held h → Has longer h) → IsFront a.admitted b.admitted → (before : List Execution) (x : Execution)
    → IsExplained (record { opening = opening; held = held; admission = a }) before x → IsExplained (record { opening = opening; held = longer; admission = b }) before x
unfolding present
explained-books opening held longer a b more front before x it = record {
  of = it.of;
  inputs = it.inputs;
  is_held = more it.of it.is_held;
  may = may-more a b it.of front it.may;
  fit = it.fit;
  is = it.is;
  once = it.once;
  were_there = subst (λ (ws : List Wanted). all_some (map (found (versions opening before)) ws) ≡ Some it.inputs) (sym (wants-same a b it.of front it.may)) it.were_there;
}

-- ---- a run explains what it executes

module _ (b : Books) where
  ready-explained : (executed : List Execution) (h : Held) (x : Execution) → Has b.held h → ready b executed h ≡ Some x → IsExplained b executed x
  unfolding ready
  ready-explained executed h x there e = go (not (is_executed executed h.digest) && may_run b h) refl (present b executed h) refl e
    where
      writing : (objects : List Object) (w : Bool) → writes_new (versions b.opening executed) (written_keys (execution h.cert.tx objects)) ≡ w → may_run b h ≡ true → present b executed h ≡ Some objects → fits h.cert.tx objects ≡ true
          → where_true w (executes_as h (execution h.cert.tx objects)) ≡ Some x → IsExplained b executed x
      writing objects false w may were fit e = absurd (cc)
      writing objects true w may were fit e = record {
        of = h;
        inputs = objects;
        is_held = there;
        may = may;
        were_there = were;
        fit = fit;
        is = same e;
        once = not-true (repeats key_eq (written_keys (execution h.cert.tx objects))) (and-second (not (list_any (holds_key (versions b.opening executed)) (written_keys (execution h.cert.tx objects)))) (not (repeats key_eq (written_keys (execution h.cert.tx objects)))) w);
      }
        where
          same : Some (executes_as h (execution h.cert.tx objects)) ≡ Some x → x ≡ executes_as h (execution h.cert.tx objects)
          same e = cc

      fitting : (objects : List Object) (f : Bool) → fits h.cert.tx objects ≡ f → may_run b h ≡ true → present b executed h ≡ Some objects → cond f (ready_as b executed h (execution h.cert.tx objects)) None ≡ Some x → IsExplained b executed x
      fitting objects false f may were e = absurd (cc)
      fitting objects true f may were e = writing objects (writes_new (versions b.opening executed) (written_keys (execution h.cert.tx objects))) refl may were f e

      go : (y : Bool) → (not (is_executed executed h.digest) && may_run b h) ≡ y → (p : Option (List Object)) → present b executed h ≡ p → cond y (ready_on b executed h p) None ≡ Some x → IsExplained b executed x
      go false may p were e = absurd (cc)
      go true may None were e = absurd (cc)
      go true may (Some objects) were e = fitting objects (fits h.cert.tx objects) refl (and-second (not (is_executed executed h.digest)) (may_run b h) may) were e

  abbrev Explained : List Execution → Execution → Type 0
  Explained = IsExplained b

  add-explained : (executed round : List Execution) (o : Option Execution) → ((x : Execution) → o ≡ Some x → Explained executed x) → Along Explained executed round → Along Explained executed (round_add round o)
  add-explained executed round None each along = along
  add-explained executed round (Some x) each along = go (clashes round x)
    where
      go : (c : Bool) → Along Explained executed (cond c round (round ++ x ∷ []))
      go true = along
      go false = along-push Explained executed round x along (explained-more b executed round x (each x refl))

  among-explained : (executed : List Execution) (hs : List Held) (round : List Execution) → ((h : Held) → Has hs h → Has b.held h) → Along Explained executed round → Along Explained executed (round_among b executed round hs)
  among-explained executed [] round there along = along
  among-explained executed (h ∷ hs) round there along = among-explained executed hs (round_add round (ready b executed h)) (λ k e. there k (inr e))
      (add-explained executed round (ready b executed h) (λ x e. ready-explained executed h x (there h (inl refl)) e) along)

  round-explained : (executed : List Execution) → Along Explained executed (round_of b executed)
  unfolding round_of
  round-explained executed = among-explained executed b.held [] (λ h e. e) tt

  within-explained : (n : ℕ) (executed : List Execution) → Along Explained executed (rounds_within n b executed)
  within-explained zero executed = tt
  within-explained (suc n) executed = along_join Explained executed (round_of b executed) (rounds_within n b (executed ++ round_of b executed)) (round-explained executed) (within-explained n (executed ++ round_of b executed))

  run-explained : (executed : List Execution) → Along Explained [] executed → Along Explained [] (executed ++ rounds b executed)
  unfolding rounds
  run-explained executed along = along_join Explained [] executed (rounds_within (length b.held) b executed) along (within-explained (length b.held) executed)

-- ---- every record keeps it

abbrev pub AllExplained : Member → Type 0
AllExplained m = Along (IsExplained (books m)) [] m.executed

still-held : (held : List Held) (what : What) (h : Held) → Has held h → Has (held_with held what) h
still-held held (takes k) h there = go (is_some (held_of held k.digest))
  where
    go : (b : Bool) → Has (cond b held (held ++ k ∷ [])) h
    go true = there
    go false = has_left held (k ∷ []) h there
still-held held commits h there = there
still-held held (counts m) h there = there
still-held held (ignores cause) h there = there

pub explained-after : (r : Rules) (m : Member) (x : Record) → AllExplained m → AllExplained (after r m x)
unfolding after
explained-after r m (record_as.Vote tx origins) all = all
explained-after r m (record_as.Hold c) all = along-map (IsExplained (books m)) (IsExplained (books (after r m (record_as.Hold c))))
    (λ before y it. explained-books m.opening m.held (after r m (record_as.Hold c)).held m.sequence.admission m.sequence.admission (λ h there. has_left m.held _ h there) (front_whole m.sequence.admission.admitted) before y it) [] m.executed all
explained-after r m (record_as.See bytes) all = along-map (IsExplained (books m)) (IsExplained (books (after r m (record_as.See bytes))))
    (λ before y it. explained-books m.opening m.held (after r m (record_as.See bytes)).held m.sequence.admission (after r m (record_as.See bytes)).sequence.admission (λ h there. still-held m.held (what_of r m.epoch m.sequence bytes) h there) (earlier-saw r m.opening m.epoch m.sequence bytes).admitted before y it) [] m.executed all
explained-after r m record_as.Close all = all
explained-after r m (record_as.Ran txs) all = run-explained (books m) m.executed all
explained-after r m record_as.Turn all = tt
explained-after r m (record_as.Ran2 items) all = run-explained (books m) m.executed all

pub none-explained : (r : Rules) (opening : List Object) → AllExplained (state r opening [])
unfolding state
none-explained r opening = tt

pub executions-explained : (s : Setting) (events : List Event) (m : ℕ) (seat : Seat) → slice_get (world_after s events).seats m ≡ Some seat → Along (IsExplained (books (member_in s seat))) [] (member_in s seat).executed
executions-explained s events m seat e =
    in_world s (λ records. AllExplained (state s.rules s.opening records))
    (λ records call x d all. subst AllExplained (sym (state-push s.rules s.opening records x)) (explained-after s.rules (state s.rules s.opening records) x all))
    (none-explained s.rules s.opening) events m seat e
