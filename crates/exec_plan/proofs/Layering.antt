-- Going once over the planned certificates, in order, executes what the rounds execute: a layer is a round.
use Rattle.std.proofs.Common.{◌≡◌, ℕ, zero, suc, ◌+◌, Bool, true, false, cond, not, ◌&&◌, ◌||◌, List, [], ◌∷◌, ◌++◌, map, Option, Some, None, is_some, inl, inr, refl, ap, sym, subst, ◌∙◌, append_assoc, append-nil, arith}
use Rattle.std.specs.Prelude.{◌⊎◌, filter, find, flat_map, length, option_map, slice_get}
use Rattle.std.specs.List.{list_all, list_any}
use Rattle.digest_core.specs.declared.Digest.{Digest}
use Rattle.chain_types.specs.declared.objects.Object.{Object}
use Rattle.chain_types.specs.declared.objects.Producer.{Producer}
use Rattle.chain_types.specs.declared.objects.Producer.TheVariants as producers
use Rattle.protocol_spec.specs.declared.pieces.Executed.{Executed}
use Rattle.protocol_spec.specs.declared.answers.Held.{Held}
use Rattle.chain_types.specs.Equal.{digest_eq, key_eq}
use Rattle.protocol_spec.proofs.Equality.{digest_same, test_turned, digest_self}
use Rattle.protocol_spec.proofs.Executions.{versions_more, ready_once}
use Rattle.protocol_spec.specs.Chain.Words.{Along, Each, all_some, repeats, where_true}
use Rattle.protocol_spec.specs.Chain.Keys.{fits}
use Rattle.protocol_spec.proofs.ListLemmas.{and-first, and-second, each_join, along_join, each_filter}
use Rattle.protocol_spec.proofs.Truth.{or_right, or_left, or_true, or_false_left, or_false_right}
use Rattle.protocol_spec.specs.Block.Execution.{execution, written_keys}
use Rattle.protocol_spec.specs.Member.Versions.{Execution, Version, is_executed, object_in, versions, written_by}
use Rattle.protocol_spec.specs.Member.Rounds.{Books, Wanted, clashes, executes_as, found, is_maker_done, is_wanted, may_run, present, ready, ready_as, ready_on, round_add, round_among, round_of, rounds, rounds_within, wants_of, writes_new}
use Rattle.version_store.proofs.Based.{any_both}
use Rattle.version_store.specs.Stores.{Stored}
use Rattle.exec_plan.specs.Books.{AreApart, digest_of_held}
use Rattle.exec_plan.specs.Layers.{in_turn, is_maker_planned, is_of, is_planned, is_supplied, joins_layer, layer_of, layers_within, onto_kept, planned_of}
use Rattle.exec_plan.specs.Makers.{is_made}
use Rattle.exec_plan.specs.Planning.{TurnsAreRounds}
use Rattle.exec_plan.specs.Written.{writes}
use Rattle.exec_plan.proofs.Clashing.{IsCovered, covered_at, now_held}
use Rattle.exec_plan.proofs.Following.{executed_join, none_out, still_new}
use Rattle.exec_plan.proofs.Making.{unmade_rests}
use Rattle.exec_plan.proofs.Readying.{is_ready, ready_alike}
use Rattle.exec_plan.proofs.Settling.{AreOthers, find_none, never_new, none_by, not_among}

pub clash : {b : Bool} → b ≡ true → b ≡ false → ⊥
clash p q = absurd (cc)

false_both : (a b : Bool) → a ≡ false → b ≡ false → (a || b) ≡ false
false_both a b p q = ap (λ c. c || b) p ∙ q

-- ---- going over two lists

pub turn_join : (b : Books) (executed : List Execution) (xs ys : List Held) → in_turn b executed (xs ++ ys) ≡ in_turn b executed xs ++ in_turn b (executed ++ in_turn b executed xs) ys
turn_join b executed [] ys = ap (λ e. in_turn b e ys) (sym (append-nil executed))
turn_join b executed (h ∷ hs) ys = go (ready b executed h) (λ e. turn_join b e hs ys)
  where
    go : (o : Option Execution) → ((e : List Execution) → in_turn b e (hs ++ ys) ≡ in_turn b e hs ++ in_turn b (e ++ in_turn b e hs) ys)
        → onto_kept (λ e. in_turn b e (hs ++ ys)) executed o ≡ onto_kept (λ e. in_turn b e hs) executed o ++ in_turn b (executed ++ onto_kept (λ e. in_turn b e hs) executed o) ys
    go None more = more executed
    go (Some x) more =
        ap (λ e. x ∷ e)
        (more (executed ++ x ∷ [])
        ∙ ap (λ e. in_turn b (executed ++ x ∷ []) hs ++ in_turn b e ys) (append_assoc executed (x ∷ []) (in_turn b (executed ++ x ∷ []) hs)))

-- ---- what is wanted, after executions of others

-- none of these transactions makes the version
abbrev pub stranger_by : List Execution → Option Producer → Type 0
stranger_by more None = Unit {0}
stranger_by more (Some p) = AreOthers p more

abbrev pub AreStrangers : List Execution → Wanted → Type 0
AreStrangers more w = stranger_by more w.producer

pub found_apart : (opening : List Object) (before more : List Execution) (w : Wanted) → AreStrangers more w → found (versions opening (before ++ more)) w ≡ found (versions opening before) w
found_apart opening before more w others = go w.producer others
  where
    nobody : (vs : List Version) → find (is_wanted w.key None) vs ≡ None
    nobody [] = refl
    nobody (v ∷ vs) = nobody vs

    go : (p : Option Producer) → stranger_by more p → option_map object_in (find (is_wanted w.key p) (versions opening (before ++ more))) ≡ option_map object_in (find (is_wanted w.key p) (versions opening before))
    go None others = ap (option_map object_in) (nobody (versions opening (before ++ more)) ∙ sym (nobody (versions opening before)))
    go (Some p) others =
        ap (λ vs. option_map object_in (find (is_wanted w.key (Some p)) vs)) (versions_more opening before more)
        ∙ ap (option_map object_in) (find_none (is_wanted w.key (Some p)) (versions opening before) (flat_map written_by more) (none_by w.key p more others))

all_apart : (opening : List Object) (before more : List Execution) (ws : List Wanted) → Each (AreStrangers more) ws
    → map (found (versions opening (before ++ more))) ws ≡ map (found (versions opening before)) ws
all_apart opening before more [] others = refl
all_apart opening before more (w ∷ ws) others =
    ap (λ (o : Option Object). o ∷ map (found (versions opening (before ++ more))) ws) (found_apart opening before more w others.0)
    ∙ ap (λ (os : List (Option Object)). found (versions opening before) w ∷ os) (all_apart opening before more ws others.1)

-- ---- what is ready after members of one round

-- the execution, if it writes nothing that these write
abbrev pub unless_clash : List Execution → Option Execution → Option Execution
unless_clash round None = None
unless_clash round (Some x) = cond (clashes round x) None (Some x)

module _ (b : Books) (before more : List Execution) (h : Held) where
  -- a certificate is ready after executions of others if it is ready before them, and does not clash with them
  pub ready_apart : is_executed more h.digest ≡ false → Each (AreStrangers more) (wants_of b.admission h) → ready b (before ++ more) h ≡ unless_clash more (ready b before h)
  unfolding ready present
  ready_apart out others =
      ap (λ (os : List (Option Object)). cond (not (is_executed (before ++ more) h.digest) && may_run b h) (ready_on b (before ++ more) h (all_some os)) None) (all_apart b.opening before more (wants_of b.admission h) others)
      ∙ ap (λ e. cond (not e && may_run b h) (ready_on b (before ++ more) h there) None) (executed_join before more h.digest ∙ out_of (is_executed before h.digest) (is_executed more h.digest) out)
      ∙ go (not (is_executed before h.digest) && may_run b h) (on there)
    where
      there : Option (List Object)
      there = all_some (map (found (versions b.opening before)) (wants_of b.admission h))

      out_of : (a c : Bool) → c ≡ false → (a || c) ≡ a
      out_of true c e = refl
      out_of false c e = e

      kept : (gave : Executed) (c : Bool) → list_any (writes more) (written_keys gave) ≡ c → writes_new (versions b.opening before) (written_keys gave) ≡ true
          → where_true (writes_new (versions b.opening (before ++ more)) (written_keys gave)) (executes_as h gave) ≡ cond c None (Some (executes_as h gave))
      kept gave true is new =
          ap (λ (held : Bool). where_true (not held && not (repeats key_eq (written_keys gave))) (executes_as h gave)) (now_held b.opening before more (written_keys gave) is)
      kept gave false is new = ap (λ w. where_true w (executes_as h gave)) (still_new b.opening before more (written_keys gave) new is)

      writing : (gave : Executed) (w : Bool) → writes_new (versions b.opening before) (written_keys gave) ≡ w → ready_as b (before ++ more) h gave ≡ unless_clash more (where_true w (executes_as h gave))
      writing gave true is = kept gave (list_any (writes more) (written_keys gave)) refl is
      writing gave false is = ap (λ w. where_true w (executes_as h gave)) (never_new b.opening before more (written_keys gave) is)

      fitting : (objects : List Object) (f : Bool)
          → cond f (ready_as b (before ++ more) h (execution h.cert.tx objects)) None ≡ unless_clash more (cond f (ready_as b before h (execution h.cert.tx objects)) None)
      fitting objects false = refl
      fitting objects true = writing (execution h.cert.tx objects) (writes_new (versions b.opening before) (written_keys (execution h.cert.tx objects))) refl

      on : (p : Option (List Object)) → ready_on b (before ++ more) h p ≡ unless_clash more (ready_on b before h p)
      on None = refl
      on (Some objects) = fitting objects (fits h.cert.tx objects)

      go : (c : Bool) → ready_on b (before ++ more) h there ≡ unless_clash more (ready_on b before h there)
          → cond c (ready_on b (before ++ more) h there) None ≡ unless_clash more (cond c (ready_on b before h there) None)
      go true e = e
      go false e = refl

-- ---- which certificates are planned

pub planned_join : (xs ys : List Held) (tx : Digest) → is_planned (xs ++ ys) tx ≡ (is_planned xs tx || is_planned ys tx)
planned_join xs ys tx = any_both (is_of tx) xs ys

module _ (test : Held → Bool) where
  -- a picked certificate is one of the list
  planned_listed : (hs : List Held) (tx : Digest) → is_planned (filter test hs) tx ≡ true → list_any (digest_eq tx) (map digest_of_held hs) ≡ true
  planned_listed [] tx there = absurd (cc)
  planned_listed (h ∷ hs) tx there = go (test h) there (planned_listed hs tx)
    where
      go : (t : Bool) → is_planned (cond t (h ∷ filter test hs) (filter test hs)) tx ≡ true → (is_planned (filter test hs) tx ≡ true → list_any (digest_eq tx) (map digest_of_held hs) ≡ true)
          → (digest_eq tx h.digest || list_any (digest_eq tx) (map digest_of_held hs)) ≡ true
      go false there rest = or_right (digest_eq tx h.digest) (list_any (digest_eq tx) (map digest_of_held hs)) (rest there)
      go true there rest = either (or_true (digest_eq h.digest tx) (is_planned (filter test hs) tx) there)
        where
          either : (digest_eq h.digest tx ≡ true) ⊎ (is_planned (filter test hs) tx ≡ true) → (digest_eq tx h.digest || list_any (digest_eq tx) (map digest_of_held hs)) ≡ true
          either (inl is) = or_left (digest_eq tx h.digest) (list_any (digest_eq tx) (map digest_of_held hs)) (test_turned digest_eq digest_same digest_self tx h.digest ∙ is)
          either (inr more) = or_right (digest_eq tx h.digest) (list_any (digest_eq tx) (map digest_of_held hs)) (rest more)

  listed_at : (hs : List Held) (place : ℕ) (h : Held) → slice_get hs place ≡ Some h → (tx : Digest) → digest_eq tx h.digest ≡ true → list_any (digest_eq tx) (map digest_of_held hs) ≡ true
  listed_at [] place h at tx is = absurd (cc)
  listed_at (k ∷ ks) zero h at tx is =
      or_left (digest_eq tx k.digest) (list_any (digest_eq tx) (map digest_of_held ks)) (ap (λ (x : Held). digest_eq tx x.digest) same ∙ is)
    where
      same : k ≡ h
      same = cc
  listed_at (k ∷ ks) (suc n) h at tx is = or_right (digest_eq tx k.digest) (list_any (digest_eq tx) (map digest_of_held ks)) (listed_at ks n h at tx is)

  -- if no transaction is held twice, a certificate with the digest of a picked one is picked
  pub is_picked : (hs : List Held) → AreApart hs → (place : ℕ) (h : Held) → slice_get hs place ≡ Some h → is_planned (filter test hs) h.digest ≡ true → test h ≡ true
  is_picked [] apart place h at there = absurd (cc)
  is_picked (k ∷ ks) apart zero h at there = subst (λ (x : Held). test x ≡ true) same (go (test k) refl (ap (λ (x : Held). is_planned (filter test (k ∷ ks)) x.digest) same ∙ there))
    where
      same : k ≡ h
      same = cc

      go : (t : Bool) → test k ≡ t → is_planned (cond t (k ∷ filter test ks) (filter test ks)) k.digest ≡ true → test k ≡ true
      go true is there = is
      go false is there = absurd (clash (planned_listed ks k.digest there) (or_false_left (list_any (digest_eq k.digest) (map digest_of_held ks)) (repeats digest_eq (map digest_of_held ks)) apart))
  is_picked (k ∷ ks) apart (suc n) h at there = go (test k) there (is_picked ks (or_false_right (list_any (digest_eq k.digest) (map digest_of_held ks)) (repeats digest_eq (map digest_of_held ks)) apart) n h at)
    where
      go : (t : Bool) → is_planned (cond t (k ∷ filter test ks) (filter test ks)) h.digest ≡ true → (is_planned (filter test ks) h.digest ≡ true → test h ≡ true) → test h ≡ true
      go false there rest = rest there
      go true there rest = either (or_true (digest_eq k.digest h.digest) (is_planned (filter test ks) h.digest) there)
        where
          either : (digest_eq k.digest h.digest ≡ true) ⊎ (is_planned (filter test ks) h.digest ≡ true) → test h ≡ true
          either (inl is) = absurd (clash (listed_at ks n h at k.digest is) (or_false_left (list_any (digest_eq k.digest) (map digest_of_held ks)) (repeats digest_eq (map digest_of_held ks)) apart))
          either (inr more) = rest more

  -- a property that a test brings holds of those that are picked
  pub all_picked : (P : Digest → Type 0) (hs : List Held) → ((h : Held) → test h ≡ true → P h.digest) → (tx : Digest) → is_planned (filter test hs) tx ≡ true → P tx
  all_picked P [] each tx there = absurd (cc)
  all_picked P (h ∷ hs) each tx there = go (test h) refl there (all_picked P hs each tx)
    where
      go : (t : Bool) → test h ≡ t → is_planned (cond t (h ∷ filter test hs) (filter test hs)) tx ≡ true → (is_planned (filter test hs) tx ≡ true → P tx) → P tx
      go false is there rest = rest there
      go true is there rest = either (or_true (digest_eq h.digest tx) (is_planned (filter test hs) tx) there)
        where
          either : (digest_eq h.digest tx ≡ true) ⊎ (is_planned (filter test hs) tx ≡ true) → P tx
          either (inl same) = subst P (digest_same h.digest tx same) (each h is)
          either (inr more) = rest more

-- whatever is executed in turn is one of those gone over
pub turn_planned : (b : Books) (hs : List Held) (executed : List Execution) (tx : Digest) → is_executed (in_turn b executed hs) tx ≡ true → is_planned hs tx ≡ true
turn_planned b [] executed tx there = absurd (cc)
turn_planned b (h ∷ hs) executed tx there = go (ready b executed h) refl there (λ e. turn_planned b hs e tx)
  where
    go : (o : Option Execution) → ready b executed h ≡ o → is_executed (onto_kept (λ e. in_turn b e hs) executed o) tx ≡ true → ((e : List Execution) → is_executed (in_turn b e hs) tx ≡ true → is_planned hs tx ≡ true)
        → (digest_eq h.digest tx || is_planned hs tx) ≡ true
    go None is there more = or_right (digest_eq h.digest tx) (is_planned hs tx) (more executed there)
    go (Some x) is there more = either (or_true (is_executed (x ∷ []) tx) (is_executed (in_turn b (executed ++ x ∷ []) hs) tx) (sym (executed_join (x ∷ []) (in_turn b (executed ++ x ∷ []) hs) tx) ∙ there))
      where
        named : x.digest ≡ h.digest
        named = (is_ready b executed h x is).named

        itself : (c : Bool) → digest_eq x.digest tx ≡ c → is_some (cond c (Some x) None) ≡ true → digest_eq h.digest tx ≡ true
        itself true is there = ap (λ (d : Digest). digest_eq d tx) (sym named) ∙ is
        itself false is there = absurd (cc)

        either : (is_executed (x ∷ []) tx ≡ true) ⊎ (is_executed (in_turn b (executed ++ x ∷ []) hs) tx ≡ true) → (digest_eq h.digest tx || is_planned hs tx) ≡ true
        either (inl is) = or_left (digest_eq h.digest tx) (is_planned hs tx) (itself (digest_eq x.digest tx) refl is)
        either (inr more_is) = or_right (digest_eq h.digest tx) (is_planned hs tx) (more (executed ++ x ∷ []) more_is)

-- ---- which transaction makes what is wanted

pub opening_other : (more : List Execution) → AreOthers producers.Opening more
opening_other [] = tt
opening_other (x ∷ xs) = (refl, opening_other xs)

-- if none of these was executed or planned before, they make nothing of what is supplied
abbrev pub AreNewcomers : List Execution → List Held → List Execution → Type 0
AreNewcomers executed planned more = (tx : Digest) → is_executed more tx ≡ true → (is_executed executed tx || is_planned planned tx) ≡ false

module _ (executed : List Execution) (planned : List Held) (more : List Execution) (new : AreNewcomers executed planned more) where
  stranger_of : (p : Option Producer) → is_maker_planned executed planned p ≡ true → stranger_by more p
  stranger_of None is = tt
  stranger_of (Some producers.Opening) is = opening_other more
  stranger_of (Some (producers.Tx tx)) is = not_among tx more (go (is_executed more tx) refl)
    where
      go : (c : Bool) → is_executed more tx ≡ c → is_executed more tx ≡ false
      go false e = e
      go true e = absurd (clash is (new tx e))

  pub strangers : (ws : List Wanted) → list_all (is_supplied executed planned) ws ≡ true → Each (AreStrangers more) ws
  strangers [] all = tt
  strangers (w ∷ ws) all = (
    stranger_of w.producer (and-first (is_supplied executed planned w) (list_all (is_supplied executed planned) ws) all),
    strangers ws (and-second (is_supplied executed planned w) (list_all (is_supplied executed planned) ws) all),
  )

supplied_more : (executed : List Execution) (planned more : List Held) (ws : List Wanted) → list_all (is_supplied executed planned) ws ≡ true → list_all (is_supplied executed (planned ++ more)) ws ≡ true
supplied_more executed planned more [] all = refl
supplied_more executed planned more (w ∷ ws) all =
    both (is_supplied executed (planned ++ more) w) (list_all (is_supplied executed (planned ++ more)) ws)
    (by w.producer (and-first (is_supplied executed planned w) (list_all (is_supplied executed planned) ws) all))
    (supplied_more executed planned more ws (and-second (is_supplied executed planned w) (list_all (is_supplied executed planned) ws) all))
  where
    both : (a c : Bool) → a ≡ true → c ≡ true → (a && c) ≡ true
    both a c p q = ap (λ x. x && c) p ∙ q

    by : (p : Option Producer) → is_maker_planned executed planned p ≡ true → is_maker_planned executed (planned ++ more) p ≡ true
    by None is = refl
    by (Some producers.Opening) is = refl
    by (Some (producers.Tx tx)) is = go (is_executed executed tx) (is_planned planned tx) (planned_join planned more tx) is
      where
        go : (e p : Bool) → is_planned (planned ++ more) tx ≡ (p || is_planned more tx) → (e || p) ≡ true → (e || is_planned (planned ++ more) tx) ≡ true
        go true p is all = refl
        go false p is all = is ∙ or_left p (is_planned more tx) all

-- ---- a layer is a round

module _ (b : Books) (executed : List Execution) (planned : List Held) where
  -- What stands after the layers so far: of the transactions executed now, each was executed before or is planned, and
  -- what was executed before is; a planned certificate is not ready, and all that makes what it wants was executed before
  -- or is planned.
  pub record IsBehind (now : List Execution) : Type 0 where
    pub known : (tx : Digest) → is_executed now tx ≡ true → (is_executed executed tx || is_planned planned tx) ≡ true
    pub stays : (tx : Digest) → is_executed executed tx ≡ true → is_executed now tx ≡ true
    pub rests : (place : ℕ) (h : Held) → slice_get b.held place ≡ Some h → is_planned planned h.digest ≡ true → ready b now h ≡ None
    pub supplied : (place : ℕ) (h : Held) → slice_get b.held place ≡ Some h → is_planned planned h.digest ≡ true → list_all (is_supplied executed planned) (wants_of b.admission h) ≡ true

  -- what it takes to join this layer
  pub record Joins (h : Held) : Type 0 where
    pub not_before : is_executed executed h.digest ≡ false
    pub not_planned : is_planned planned h.digest ≡ false
    pub may : may_run b h ≡ true
    pub all : list_all (is_supplied executed planned) (wants_of b.admission h) ≡ true

  pub joins : (h : Held) → joins_layer b executed planned h ≡ true → Joins h
  joins h is = go (is_executed executed h.digest) refl (is_planned planned h.digest) refl (may_run b h) refl (list_all (is_supplied executed planned) (wants_of b.admission h)) refl is
    where
      go : (e : Bool) → is_executed executed h.digest ≡ e → (p : Bool) → is_planned planned h.digest ≡ p → (m : Bool) → may_run b h ≡ m
          → (s : Bool) → list_all (is_supplied executed planned) (wants_of b.admission h) ≡ s → (not e && not p && m && s) ≡ true → Joins h
      go true ex p pl m may s sup is = absurd (cc)
      go false ex true pl m may s sup is = absurd (cc)
      go false ex false pl false may s sup is = absurd (cc)
      go false ex false pl true may false sup is = absurd (cc)
      go false ex false pl true may true sup is = record { not_before = ex; not_planned = pl; may = may; all = sup }

  module _ (now : List Execution) (behind : IsBehind now) where
    unsupplied : (ws : List Wanted) → list_all (is_supplied executed planned) ws ≡ false → list_all (is_made now) ws ≡ false
    unsupplied [] none = absurd (cc)
    unsupplied (w ∷ ws) none = go (is_supplied executed planned w) refl none (unsupplied ws)
      where
        and_false : (a : Bool) → (a && false) ≡ false
        and_false true = refl
        and_false false = refl

        by : (p : Option Producer) → is_maker_planned executed planned p ≡ false → is_maker_done now p ≡ false
        by None is = absurd (cc)
        by (Some producers.Opening) is = absurd (cc)
        by (Some (producers.Tx tx)) is = made (is_executed now tx) refl
          where
            made : (c : Bool) → is_executed now tx ≡ c → is_executed now tx ≡ false
            made false e = e
            made true e = absurd (clash (behind.known tx e) is)

        go : (c : Bool) → is_supplied executed planned w ≡ c → (c && list_all (is_supplied executed planned) ws) ≡ false → (list_all (is_supplied executed planned) ws ≡ false → list_all (is_made now) ws ≡ false)
            → (is_made now w && list_all (is_made now) ws) ≡ false
        go true is none rest = ap (λ c. is_made now w && c) (rest none) ∙ and_false (is_made now w)
        go false is none rest = ap (λ c. c && list_all (is_made now) ws) (by w.producer is)

    -- a certificate in no layer so far, and not in this one, is not ready
    out_rests : (place : ℕ) (h : Held) → slice_get b.held place ≡ Some h → joins_layer b executed planned h ≡ false → ready b now h ≡ None
    unfolding ready
    out_rests place h at out = go (is_executed executed h.digest) refl (is_planned planned h.digest) refl (may_run b h) refl (list_all (is_supplied executed planned) (wants_of b.admission h)) refl out
      where
        no_more : (e m : Bool) (o : Option Execution) → m ≡ false → cond (not e && m) o None ≡ None
        no_more true m o is = refl
        no_more false m o is = ap (λ c. cond c o None) is

        go : (e : Bool) → is_executed executed h.digest ≡ e → (p : Bool) → is_planned planned h.digest ≡ p → (m : Bool) → may_run b h ≡ m
            → (s : Bool) → list_all (is_supplied executed planned) (wants_of b.admission h) ≡ s → (not e && not p && m && s) ≡ false → ready b now h ≡ None
        go true ex p pl m may s sup out = ready_once b now h (behind.stays h.digest ex)
        go false ex true pl m may s sup out = behind.rests place h at pl
        go false ex false pl false may s sup out = no_more (is_executed now h.digest) (may_run b h) (ready_on b now h (present b now h)) may
        go false ex false pl true may true sup out = absurd (cc)
        go false ex false pl true may false sup out =
            sym (ready_alike stored b.admission b.held h) ∙ unmade_rests stored b.admission h (unsupplied (wants_of b.admission h) sup)
          where
            stored : Stored
            stored = record { opening = b.opening; executed = now }

    -- the certificates of this layer, from a place on
    abbrev layer_in : List Held → List Held
    layer_in hs = filter (joins_layer b executed planned) hs

    record IsNew (round : List Execution) (hs : List Held) : Type 0 where
      out : Each (λ (h : Held). is_executed round h.digest ≡ false) hs
      new : AreNewcomers executed planned round

    abbrev IsAt : ℕ → List Held → Type 0
    IsAt place hs = (i : ℕ) (h : Held) → slice_get hs i ≡ Some h → slice_get b.held (place + i) ≡ Some h

    later : (place : ℕ) (h : Held) (hs : List Held) → IsAt place (h ∷ hs) → IsAt (suc place) hs
    later place h hs at i k e =
        let next : place + suc i ≡ suc place + i = omega arith in
        subst (λ n. slice_get b.held n ≡ Some k) next (at (suc i) k e)

    first : (place : ℕ) (h : Held) (hs : List Held) → IsAt place (h ∷ hs) → slice_get b.held place ≡ Some h
    first place h hs at =
        let same : place + 0 ≡ place = omega arith in
        subst (λ n. slice_get b.held n ≡ Some h) same (at 0 h refl)

    -- one more member
    more_new : (round : List Execution) (h : Held) (x : Execution) (hs : List Held) → AreApart (h ∷ hs) → IsNew round (h ∷ hs) → Joins h → x.digest ≡ h.digest → IsNew (round ++ x ∷ []) hs
    more_new round h x hs apart is joined named = record {
      out = outs hs is.out.1 (or_false_left (list_any (digest_eq h.digest) (map digest_of_held hs)) (repeats digest_eq (map digest_of_held hs)) apart);
      new = λ tx there. either tx (or_true (is_executed round tx) (is_executed (x ∷ []) tx) (sym (executed_join round (x ∷ []) tx) ∙ there));
    }
      where
        alone : (tx : Digest) (c : Bool) → digest_eq x.digest tx ≡ c → is_executed (x ∷ []) tx ≡ c
        alone tx true e = ap (λ c. is_some (cond c (Some x) None)) e
        alone tx false e = ap (λ c. is_some (cond c (Some x) None)) e

        outs : (ks : List Held) → Each (λ (k : Held). is_executed round k.digest ≡ false) ks → list_any (digest_eq h.digest) (map digest_of_held ks) ≡ false
            → Each (λ (k : Held). is_executed (round ++ x ∷ []) k.digest ≡ false) ks
        outs [] each apart = tt
        outs (k ∷ ks) each apart = (
          executed_join round (x ∷ []) k.digest
              ∙ false_both (is_executed round k.digest) (is_executed (x ∷ []) k.digest) each.0
              (alone k.digest false (ap (λ (d : Digest). digest_eq d k.digest) named ∙ or_false_left (digest_eq h.digest k.digest) (list_any (digest_eq h.digest) (map digest_of_held ks)) apart)),
          outs ks each.1 (or_false_right (digest_eq h.digest k.digest) (list_any (digest_eq h.digest) (map digest_of_held ks)) apart),
        )

        itself : (tx : Digest) (c : Bool) → digest_eq x.digest tx ≡ c → is_executed (x ∷ []) tx ≡ true → h.digest ≡ tx
        itself tx true e there = sym named ∙ digest_same x.digest tx e
        itself tx false e there = absurd (clash there (alone tx false e))

        either : (tx : Digest) → (is_executed round tx ≡ true) ⊎ (is_executed (x ∷ []) tx ≡ true) → (is_executed executed tx || is_planned planned tx) ≡ false
        either tx (inl there) = is.new tx there
        either tx (inr there) =
            subst (λ (d : Digest). (is_executed executed d || is_planned planned d) ≡ false) (itself tx (digest_eq x.digest tx) refl there)
            (false_both (is_executed executed h.digest) (is_planned planned h.digest) joined.not_before joined.not_planned)

    layer_is_round : (hs : List Held) (place : ℕ) (round : List Execution) → IsAt place hs → AreApart hs → IsNew round hs
        → round ++ in_turn b (now ++ round) (layer_in hs) ≡ round_among b now round hs
    layer_is_round [] place round at apart new = append-nil round
    layer_is_round (h ∷ hs) place round at apart new =
        go (joins_layer b executed planned h) refl (λ r. layer_is_round hs (suc place) r (later place h hs at) (or_false_right (list_any (digest_eq h.digest) (map digest_of_held hs)) (repeats digest_eq (map digest_of_held hs)) apart))
      where
        More : Type 0
        More = (r : List Execution) → IsNew r hs → r ++ in_turn b (now ++ r) (layer_in hs) ≡ round_among b now r hs

        same : IsNew round hs
        same = record { out = new.out.1; new = new.new }

        clashing : (x : Execution) → Joins h → ready b now h ≡ Some x → (c : Bool) → More
            → round ++ onto_kept (λ e. in_turn b e (layer_in hs)) (now ++ round) (cond c None (Some x)) ≡ round_among b now (cond c round (round ++ x ∷ [])) hs
        clashing x joined is true more = more round same
        clashing x joined is false more =
            sym (append_assoc round (x ∷ []) (in_turn b ((now ++ round) ++ x ∷ []) (layer_in hs)))
            ∙ ap (λ e. (round ++ x ∷ []) ++ in_turn b e (layer_in hs)) (append_assoc now round (x ∷ []))
            ∙ more (round ++ x ∷ []) (more_new round h x hs apart new joined (is_ready b now h x is).named)

        member : (o : Option Execution) → ready b now h ≡ o → Joins h → More
            → round ++ onto_kept (λ e. in_turn b e (layer_in hs)) (now ++ round) (unless_clash round o) ≡ round_among b now (round_add round o) hs
        member None is joined more = more round same
        member (Some x) is joined more = clashing x joined is (clashes round x) more

        go : (j : Bool) → joins_layer b executed planned h ≡ j → More
            → round ++ in_turn b (now ++ round) (cond j (h ∷ layer_in hs) (layer_in hs)) ≡ round_among b now (round_add round (ready b now h)) hs
        go false out more =
            more round same
            ∙ ap (λ (o : Option Execution). round_among b now (round_add round o) hs) (sym (out_rests place h (first place h hs at) out))
        go true is more =
            ap (λ (o : Option Execution). round ++ onto_kept (λ e. in_turn b e (layer_in hs)) (now ++ round) o)
            (ready_apart b now round h new.out.0 (strangers executed planned round new.new (wants_of b.admission h) (joins h is).all))
            ∙ member (ready b now h) refl (joins h is) more

    -- the whole layer, gone over in turn, is the round
    pub layer_turn : AreApart b.held → in_turn b now (layer_of b executed planned) ≡ round_of b now
    unfolding round_of
    layer_turn apart =
        ap (λ e. in_turn b e (layer_of b executed planned)) (sym (append-nil now))
        ∙ layer_is_round b.held 0 [] at apart (record { out = none_out b.held; new = λ tx there. absurd (nobody tx there) })
      where
        nobody : (tx : Digest) → is_executed [] tx ≡ true → ⊥
        nobody tx there = cc

        at : IsAt 0 b.held
        at i h e =
            let same : i ≡ 0 + i = omega arith in
            subst (λ n. slice_get b.held n ≡ Some h) same e

    -- the members of the round were neither executed nor planned before
    round_new : AreNewcomers executed planned (in_turn b now (layer_of b executed planned))
    round_new tx there =
        all_picked (joins_layer b executed planned) (λ (d : Digest). (is_executed executed d || is_planned planned d) ≡ false) b.held
        (λ h is. let joined : Joins h = joins h is in false_both (is_executed executed h.digest) (is_planned planned h.digest) joined.not_before joined.not_planned)
        tx (turn_planned b (layer_of b executed planned) now tx there)

    -- after the round none of its members is ready
    layer_rests : AreApart b.held → (place : ℕ) (h : Held) → slice_get b.held place ≡ Some h → joins_layer b executed planned h ≡ true
        → ready b (now ++ in_turn b now (layer_of b executed planned)) h ≡ None
    unfolding round_of
    layer_rests apart place h at is = go (is_executed round h.digest) refl
      where
        round : List Execution
        round = in_turn b now (layer_of b executed planned)

        clashing : (x : Execution) → is_executed round h.digest ≡ false → IsCovered round h x → unless_clash round (Some x) ≡ None
        clashing x out (inl ran) = absurd (clash ran out)
        clashing x out (inr there) = ap (λ c. cond c None (Some x)) there

        behind_round : is_executed round h.digest ≡ false → (o : Option Execution) → ready b now h ≡ o → unless_clash round o ≡ None
        behind_round out None e = refl
        behind_round out (Some x) e = clashing x out (subst (λ r. IsCovered r h x) (sym (layer_turn apart)) (covered_at b now b.held [] place h x at e))

        go : (c : Bool) → is_executed round h.digest ≡ c → ready b (now ++ round) h ≡ None
        go true ran = ready_once b (now ++ round) h (executed_join now round h.digest ∙ or_right (is_executed now h.digest) (is_executed round h.digest) ran)
        go false out =
            ready_apart b now round h out (strangers executed planned round round_new (wants_of b.admission h) (joins h is).all)
            ∙ behind_round out (ready b now h) refl

-- so the next layer stands after the next round
pub behind_more : (b : Books) (executed : List Execution) (planned : List Held) (now : List Execution) → IsBehind b executed planned now → AreApart b.held
    → IsBehind b executed (planned ++ layer_of b executed planned) (now ++ in_turn b now (layer_of b executed planned))
behind_more b executed planned now behind apart = record {
  known = λ tx there. knows tx (or_true (is_executed now tx) (is_executed round tx) (sym (executed_join now round tx) ∙ there));
  stays = λ tx there. executed_join now round tx ∙ or_left (is_executed now tx) (is_executed round tx) (behind.stays tx there);
  rests = λ place h at there. resting place h at (or_true (is_planned planned h.digest) (is_planned layer h.digest) (sym (planned_join planned layer h.digest) ∙ there));
  supplied = λ place h at there. supplying place h at (or_true (is_planned planned h.digest) (is_planned layer h.digest) (sym (planned_join planned layer h.digest) ∙ there));
}
  where
    new : AreNewcomers executed planned (in_turn b now (layer_of b executed planned))
    new = round_new b executed planned now behind

    round : List Execution
    round = in_turn b now (layer_of b executed planned)

    layer : List Held
    layer = layer_of b executed planned

    knows : (tx : Digest) → (is_executed now tx ≡ true) ⊎ (is_executed round tx ≡ true) → (is_executed executed tx || is_planned (planned ++ layer) tx) ≡ true
    knows tx (inl there) = ap (λ c. is_executed executed tx || c) (planned_join planned layer tx) ∙ go (is_executed executed tx) (is_planned planned tx) (behind.known tx there)
      where
        go : (e p : Bool) → (e || p) ≡ true → (e || (p || is_planned layer tx)) ≡ true
        go true p is = refl
        go false p is = or_left p (is_planned layer tx) is
    knows tx (inr there) =
        or_right (is_executed executed tx) (is_planned (planned ++ layer) tx)
        (planned_join planned layer tx ∙ or_right (is_planned planned tx) (is_planned layer tx) (turn_planned b layer now tx there))

    resting : (place : ℕ) (h : Held) → slice_get b.held place ≡ Some h → (is_planned planned h.digest ≡ true) ⊎ (is_planned layer h.digest ≡ true) → ready b (now ++ round) h ≡ None
    resting place h at (inl there) =
        ready_apart b now round h (out (is_executed round h.digest) refl) (strangers executed planned round new (wants_of b.admission h) (behind.supplied place h at there))
        ∙ ap (unless_clash round) (behind.rests place h at there)
      where
        out : (c : Bool) → is_executed round h.digest ≡ c → is_executed round h.digest ≡ false
        out false e = e
        out true e = absurd (clash there (or_false_right (is_executed executed h.digest) (is_planned planned h.digest) (new h.digest e)))
    resting place h at (inr there) = layer_rests b executed planned now behind apart place h at (is_picked (joins_layer b executed planned) b.held apart place h at there)

    supplying : (place : ℕ) (h : Held) → slice_get b.held place ≡ Some h → (is_planned planned h.digest ≡ true) ⊎ (is_planned layer h.digest ≡ true) → list_all (is_supplied executed (planned ++ layer)) (wants_of b.admission h) ≡ true
    supplying place h at (inl there) = supplied_more executed planned layer (wants_of b.admission h) (behind.supplied place h at there)
    supplying place h at (inr there) = supplied_more executed planned layer (wants_of b.admission h) (joins b executed planned h (is_picked (joins_layer b executed planned) b.held apart place h at there)).all

-- ---- all layers

layers_turn : (n : ℕ) (b : Books) (executed : List Execution) (planned : List Held) (now : List Execution) → AreApart b.held → IsBehind b executed planned now
    → in_turn b now (layers_within n b executed planned) ≡ rounds_within n b now
layers_turn zero b executed planned now apart behind = refl
layers_turn (suc n) b executed planned now apart behind =
    turn_join b now (layer_of b executed planned) (layers_within n b executed (planned ++ layer_of b executed planned))
    ∙ ap (λ e. in_turn b now (layer_of b executed planned) ++ e)
    (layers_turn n b executed (planned ++ layer_of b executed planned) (now ++ in_turn b now (layer_of b executed planned)) apart (behind_more b executed planned now behind apart))
    ∙ ap (λ e. e ++ rounds_within n b (now ++ e)) (layer_turn b executed planned now behind apart)

nothing_planned : (b : Books) (executed : List Execution) → IsBehind b executed [] executed
nothing_planned b executed = record {
  known = λ tx there. or_left (is_executed executed tx) false there;
  stays = λ tx there. there;
  rests = λ place h at there. absurd (never h.digest there);
  supplied = λ place h at there. absurd (never h.digest there);
}
  where
    never : (tx : Digest) → is_planned [] tx ≡ true → ⊥
    never tx there = cc

pub turns_are_rounds : TurnsAreRounds
unfolding planned_of rounds
turns_are_rounds b executed apart = layers_turn (length b.held) b executed [] executed apart (nothing_planned b executed)

-- ---- a planned certificate joins a layer

module _ (b : Books) (executed : List Execution) (planned : List Held) where
  joins_behind : (more : List Held) (h : Held) → Joins b executed planned h → is_planned more h.digest ≡ false → Joins b executed (planned ++ more) h
  joins_behind more h joined out = record {
    not_before = joined.not_before;
    not_planned = planned_join planned more h.digest ∙ false_both (is_planned planned h.digest) (is_planned more h.digest) joined.not_planned out;
    may = joined.may;
    all = supplied_more executed planned more (wants_of b.admission h) joined.all;
  }

  layer_along : (hs more : List Held) → AreApart hs → Each (λ (h : Held). is_planned more h.digest ≡ false) hs → Along (Joins b executed) (planned ++ more) (filter (joins_layer b executed planned) hs)
  layer_along [] more apart out = tt
  layer_along (h ∷ hs) more apart out =
      go (joins_layer b executed planned h) refl
      (λ ms. layer_along hs ms (or_false_right (list_any (digest_eq h.digest) (map digest_of_held hs)) (repeats digest_eq (map digest_of_held hs)) apart))
    where
      next : (ks : List Held) → Each (λ (k : Held). is_planned more k.digest ≡ false) ks → list_any (digest_eq h.digest) (map digest_of_held ks) ≡ false
          → Each (λ (k : Held). is_planned (more ++ h ∷ []) k.digest ≡ false) ks
      next [] each apart = tt
      next (k ∷ ks) each apart = (
        planned_join more (h ∷ []) k.digest
            ∙ false_both (is_planned more k.digest) (digest_eq h.digest k.digest || false) each.0
            (false_both (digest_eq h.digest k.digest) false (or_false_left (digest_eq h.digest k.digest) (list_any (digest_eq h.digest) (map digest_of_held ks)) apart) refl),
        next ks each.1 (or_false_right (digest_eq h.digest k.digest) (list_any (digest_eq h.digest) (map digest_of_held ks)) apart),
      )

      go : (j : Bool) → joins_layer b executed planned h ≡ j
          → ((ms : List Held) → Each (λ (k : Held). is_planned ms k.digest ≡ false) hs → Along (Joins b executed) (planned ++ ms) (filter (joins_layer b executed planned) hs))
          → Along (Joins b executed) (planned ++ more) (cond j (h ∷ filter (joins_layer b executed planned) hs) (filter (joins_layer b executed planned) hs))
      go false is rest = rest more out.1
      go true is rest = (
        joins_behind more h (joins b executed planned h is) out.0,
        subst (λ f. Along (Joins b executed) f (filter (joins_layer b executed planned) hs)) (sym (append_assoc planned more (h ∷ [])))
            (rest (more ++ h ∷ []) (next hs out.1 (or_false_left (list_any (digest_eq h.digest) (map digest_of_held hs)) (repeats digest_eq (map digest_of_held hs)) apart))),
      )

none_planned : (hs : List Held) → Each (λ (h : Held). is_planned [] h.digest ≡ false) hs
none_planned [] = tt
none_planned (h ∷ hs) = (refl, none_planned hs)

layers_along : (n : ℕ) (b : Books) (executed : List Execution) (planned : List Held) → AreApart b.held → Along (Joins b executed) planned (layers_within n b executed planned)
layers_along zero b executed planned apart = tt
layers_along (suc n) b executed planned apart =
    along_join (Joins b executed) planned (layer_of b executed planned) (layers_within n b executed (planned ++ layer_of b executed planned))
    (subst (λ f. Along (Joins b executed) f (layer_of b executed planned)) (append-nil planned) (layer_along b executed planned b.held [] apart (none_planned b.held)))
    (layers_along n b executed (planned ++ layer_of b executed planned) apart)

-- each planned certificate joins a layer after those before it
pub planned_along : (b : Books) (executed : List Execution) → AreApart b.held → Along (Joins b executed) [] (planned_of b executed)
unfolding planned_of
planned_along b executed apart = layers_along (length b.held) b executed [] apart

-- what each held certificate has, each planned one has

each_within : (n : ℕ) (b : Books) (executed : List Execution) (planned : List Held) (P : Held → Type 0) → Each P b.held → Each P (layers_within n b executed planned)
each_within zero b executed planned P each = tt
each_within (suc n) b executed planned P each =
    each_join P (layer_of b executed planned) (layers_within n b executed (planned ++ layer_of b executed planned)) (each_filter P (joins_layer b executed planned) b.held each)
    (each_within n b executed (planned ++ layer_of b executed planned) P each)

pub each_planned : (b : Books) (executed : List Execution) (P : Held → Type 0) → Each P b.held → Each P (planned_of b executed)
unfolding planned_of
each_planned b executed P each = each_within (length b.held) b executed [] P each
