-- Which certificates the next layer has, and where the others stand.
use Rattle.std.proofs.Common.{◌≡◌, ℕ, zero, suc, ◌+◌, ◌-◌, ◌<◌, Bool, true, false, cond, not, ◌&&◌, ◌||◌, List, [], ◌∷◌, ◌++◌, map, length, Option, Some, None, is_some, inl, inr, refl, ap, sym, subst, ◌∙◌, append_assoc, append-nil, ne_eqb, arith}
use Rattle.std.specs.Prelude.{◌⊎◌, ◌≤◌, ◌==◌, filter, drop, find, slice_get, slice_index, take}
use Rattle.std.proofs.lemmas.List.Elements.{filter_map-append}
use Rattle.std.specs.List.{cons_option, list_all, list_any}
use Rattle.std.specs.List.Sorted.{IsStrictlySortedBy}
use Rattle.std.specs.Ordering.{nat_cmp}
use Rattle.indexmap.specs.IndexSet.{insert_all, insert_key}
use Rattle.digest_core.specs.declared.Digest.{Digest}
use Rattle.chain_types.specs.declared.objects.Producer.{Producer}
use Rattle.chain_types.specs.declared.objects.Producer.TheVariants as producers
use Rattle.protocol_spec.specs.declared.answers.Held.{Held}
use Rattle.chain_types.specs.Equal.{digest_eq}
use Rattle.protocol_spec.proofs.Equality.{digest_same, test_turned, digest_self}
use Rattle.protocol_spec.proofs.ListLemmas.{has_left, has_right, tail_is}
use Rattle.protocol_spec.proofs.Truth.{or_assoc, or_true, or_left, or_right}
use Rattle.protocol_spec.specs.Chain.Words.{Each, Has}
use Rattle.protocol_spec.specs.Chain.Shape.{is_empty_list}
use Rattle.protocol_spec.specs.Member.Versions.{Execution, is_executed}
use Rattle.protocol_spec.specs.Member.Admission.{Admission}
use Rattle.protocol_spec.specs.Member.Rounds.{Books, Wanted, is_maker_done, wants_of}
use Rattle.version_store.proofs.Based.{any_both}
use Rattle.version_store.specs.Stores.{Stored}
use Rattle.exec_plan.specs.declared.waiting.DependencyIndex.{DependencyIndex}
use Rattle.exec_plan.specs.Ahead.{Agrees, AreParked, AreTaken, Parked, has_run, joining, joins_now, joins_of, lacks_admission, layer_places, waits_behind, was_taken, with_digest}
use Rattle.exec_plan.specs.Behind.{Frees, Lists, StaysListed, is_among, listed}
use Rattle.exec_plan.specs.Books.{AreApart, books_of, digest_of_held, is_let}
use Rattle.exec_plan.specs.Drafts.{picked}
use Rattle.exec_plan.specs.Layers.{is_maker_planned, is_planned, is_supplied, joins_layer, layer_of, layers_within, planned_of}
use Rattle.exec_plan.specs.Makers.{are_made, is_made}
use Rattle.exec_plan.specs.Past.{as_if, empty_execution}
use Rattle.exec_plan.specs.Places.{Picks}
use Rattle.exec_plan.specs.Runs.{with_executions}
use Rattle.exec_plan.specs.Waits.{Filed, IsBehind, IsFiled, IsWaiting, comes_next, is_behind, is_loose, is_unadmitted, was_run}
use Rattle.exec_plan.proofs.Following.{executed_join}
use Rattle.exec_plan.proofs.Layering.{clash, is_picked, planned_join}
use Rattle.exec_plan.proofs.Making.{makes_not}
use Rattle.exec_plan.proofs.Rounding.{all_far, ascends, at_front, at_none, longer, picks_of}

-- ---- names

named_is : (txs : List Digest) (tx : Digest) → is_executed (map empty_execution txs) tx ≡ list_any (digest_eq tx) txs
named_is [] tx = refl
named_is (d ∷ ds) tx = go (digest_eq d tx) (digest_eq tx d) (test_turned digest_eq digest_same digest_self d tx) (named_is ds tx)
  where
    go : (b c : Bool) → b ≡ c → is_executed (map empty_execution ds) tx ≡ list_any (digest_eq tx) ds
        → is_some (cond b (Some (empty_execution d)) (find (λ (y : Execution). digest_eq y.digest tx) (map empty_execution ds))) ≡ (c || list_any (digest_eq tx) ds)
    go true true e more = refl
    go false false e more = more
    go true false e more = absurd (cc)
    go false true e more = absurd (cc)

pub known_is : (txs : List Digest) (s : Stored) (tx : Digest) → is_executed (as_if txs s).executed tx ≡ (list_any (digest_eq tx) txs || is_executed s.executed tx)
known_is txs s tx = executed_join (map empty_execution txs) s.executed tx ∙ ap (λ c. c || is_executed s.executed tx) (named_is txs tx)

or_none : (a : Bool) → a ≡ (a || false)
or_none true = refl
or_none false = refl

one_named : (txs : List Digest) (d tx : Digest) → list_any (digest_eq tx) (insert_key digest_eq txs d) ≡ (list_any (digest_eq tx) txs || digest_eq tx d)
one_named txs d tx = go (list_any (digest_eq d) txs) refl
  where
    absorb : (a b : Bool) → (b ≡ true → a ≡ true) → a ≡ (a || b)
    absorb true b f = refl
    absorb false false f = refl
    absorb false true f = f refl

    go : (b : Bool) → list_any (digest_eq d) txs ≡ b → list_any (digest_eq tx) (cond b txs (txs ++ d ∷ [])) ≡ (list_any (digest_eq tx) txs || digest_eq tx d)
    go true there =
        absorb (list_any (digest_eq tx) txs) (digest_eq tx d) (λ same. ap (λ (x : Digest). list_any (digest_eq x) txs) (digest_same tx d same) ∙ there)
    go false there = any_both (digest_eq tx) txs (d ∷ []) ∙ ap (λ b. list_any (digest_eq tx) txs || b) (sym (or_none (digest_eq tx d)))

-- whether a transaction is named, after more names
pub all_named : (more txs : List Digest) (tx : Digest) → list_any (digest_eq tx) (insert_all digest_eq txs more) ≡ (list_any (digest_eq tx) txs || list_any (digest_eq tx) more)
all_named [] txs tx = or_none (list_any (digest_eq tx) txs)
all_named (d ∷ ds) txs tx =
    all_named ds (insert_key digest_eq txs d) tx
    ∙ ap (λ b. b || list_any (digest_eq tx) ds) (one_named txs d tx)
    ∙ or_assoc (list_any (digest_eq tx) txs) (digest_eq tx d) (list_any (digest_eq tx) ds)

among_is : (txs : List Digest) (tx : Digest) → is_among txs tx ≡ list_any (digest_eq tx) txs
among_is [] tx = refl
among_is (d ∷ ds) tx = ap (λ c. c || is_among ds tx) (test_turned digest_eq digest_same digest_self d tx) ∙ ap (λ c. digest_eq tx d || c) (among_is ds tx)

planned_is : (hs : List Held) (tx : Digest) → list_any (digest_eq tx) (map digest_of_held hs) ≡ is_planned hs tx
planned_is [] tx = refl
planned_is (h ∷ hs) tx =
    ap (λ c. c || list_any (digest_eq tx) (map digest_of_held hs)) (test_turned digest_eq digest_same digest_self tx h.digest) ∙ ap (λ c. digest_eq h.digest tx || c) (planned_is hs tx)

pub agrees_more : (txs : List Digest) (planned more : List Held) → Agrees txs planned → Agrees (insert_all digest_eq txs (map digest_of_held more)) (planned ++ more)
agrees_more txs planned more agrees tx =
    all_named (map digest_of_held more) txs tx
    ∙ ap (λ c. c || list_any (digest_eq tx) (map digest_of_held more)) (agrees tx)
    ∙ ap (λ c. is_planned planned tx || c) (planned_is more tx)
    ∙ sym (planned_join planned more tx)

-- ---- which certificates join

module _ (s : Stored) (a : Admission) (held : List Held) (txs : List Digest) (planned : List Held) (agrees : Agrees txs planned) where
  abbrev now : Stored
  now = as_if txs s

  known : (tx : Digest) → is_executed now.executed tx ≡ (is_executed s.executed tx || is_planned planned tx)
  known tx = known_is txs s tx ∙ ap (λ c. c || is_executed s.executed tx) (agrees tx) ∙ swap (is_planned planned tx) (is_executed s.executed tx)
    where
      swap : (a b : Bool) → (a || b) ≡ (b || a)
      swap true true = refl
      swap true false = refl
      swap false true = refl
      swap false false = refl

  supplied_is : (ws : List Wanted) → list_all (is_made now.executed) ws ≡ list_all (is_supplied s.executed planned) ws
  supplied_is [] = refl
  supplied_is (w ∷ ws) = ap (λ c. c && list_all (is_made now.executed) ws) (by w.producer) ∙ ap (λ c. is_supplied s.executed planned w && c) (supplied_is ws)
    where
      by : (p : Option Producer) → is_maker_done now.executed p ≡ is_maker_planned s.executed planned p
      by None = refl
      by (Some producers.Opening) = refl
      by (Some (producers.Tx tx)) = known tx

  joins_is : (h : Held) → joins_now now a h ≡ joins_layer (books_of s a held) s.executed planned h
  joins_is h =
      ap (λ c. not c && is_let a h && are_made now.executed a h) (known h.digest)
      ∙ ap (λ c. not (is_executed s.executed h.digest || is_planned planned h.digest) && is_let a h && c) (supplied_is (wants_of a h))
      ∙ go (is_executed s.executed h.digest) (is_planned planned h.digest) (is_let a h) (list_all (is_supplied s.executed planned) (wants_of a h))
    where
      go : (e p m c : Bool) → (not (e || p) && m && c) ≡ (not e && not p && m && c)
      go true p m c = refl
      go false true m c = refl
      go false false m c = refl

  pub layer_is : filter (joins_now now a) held ≡ layer_of (books_of s a held) s.executed planned
  layer_is = go held
    where
      go : (hs : List Held) → filter (joins_now now a) hs ≡ filter (joins_layer (books_of s a held) s.executed planned) hs
      go [] = refl
      go (h ∷ hs) =
          ap (λ c. cond c (h ∷ filter (joins_now now a) hs) (filter (joins_now now a) hs)) (joins_is h)
          ∙ ap (λ l. cond (joins_layer (books_of s a held) s.executed planned h) (h ∷ l) l) (go hs)

-- ---- a layer by its places

module _ (s : Stored) (a : Admission) (all : List Held) where
  abbrev Rests : Held → Type 0
  Rests h = joins_now s a h ≡ false

  abbrev layer_in : List ℕ → List Held
  layer_in places = picked all (layer_places s a all places)

  none_there : (places : List ℕ) → Each (λ p. length all ≤ p) places → layer_in places ≡ []
  none_there [] far = refl
  none_there (p ∷ ps) far = ap (λ (o : Option Held). picked all (cond (joins_of s a o) (p ∷ layer_places s a all ps) (layer_places s a all ps))) (at_none all p far.0) ∙ none_there ps far.1

  rests : (h : Held) (hs : List Held) → Rests h → filter (joins_now s a) (h ∷ hs) ≡ filter (joins_now s a) hs
  rests h hs none = ap (λ c. cond c (h ∷ filter (joins_now s a) hs) (filter (joins_now s a) hs)) none

  one_there : (p : ℕ) (ps : List ℕ) (h : Held) → slice_get all p ≡ Some h → layer_in (p ∷ ps) ≡ cond (joins_now s a h) (h ∷ layer_in ps) (layer_in ps)
  one_there p ps h at =
      ap (λ (o : Option Held). picked all (cond (joins_of s a o) (p ∷ layer_places s a all ps) (layer_places s a all ps))) at
      ∙ go (joins_now s a h)
    where
      go : (c : Bool) → picked all (cond c (p ∷ layer_places s a all ps) (layer_places s a all ps)) ≡ cond c (h ∷ layer_in ps) (layer_in ps)
      go true = ap (λ (o : Option Held). cons_option o (layer_in ps)) at
      go false = refl

  picks_layer : (places : List ℕ) (hs front : List Held) → all ≡ front ++ hs → Picks Rests (length front) places hs → layer_in places ≡ filter (joins_now s a) hs
  picks_layer places [] front is picks = none_there places (all_far all places front is picks)
  picks_layer [] (h ∷ hs) front is picks =
      picks_layer [] hs (front ++ h ∷ []) (is ∙ sym (append_assoc front (h ∷ []) hs)) (subst (λ n. Picks Rests n [] hs) (sym (longer front h)) picks.1)
      ∙ sym (rests h hs picks.0)
  picks_layer (p ∷ ps) (h ∷ hs) front is (inl picks) =
      one_there p ps h (ap (slice_get all) picks.0 ∙ ap (λ xs. slice_get xs (length front)) is ∙ at_front front h hs)
      ∙ ap (λ l. cond (joins_now s a h) (h ∷ l) l)
      (picks_layer ps hs (front ++ h ∷ []) (is ∙ sym (append_assoc front (h ∷ []) hs)) (subst (λ n. Picks Rests n ps hs) (sym (longer front h)) picks.1))
  picks_layer (p ∷ ps) (h ∷ hs) front is (inr picks) =
      picks_layer (p ∷ ps) hs (front ++ h ∷ []) (is ∙ sym (append_assoc front (h ∷ []) hs)) (subst (λ n. Picks Rests n (p ∷ ps) hs) (sym (longer front h)) picks.1)
      ∙ sym (rests h hs picks.0)

  -- the layer of ascending places is the layer of all, if those at other places do not join
  layer_of_places : (places : List ℕ) → IsStrictlySortedBy nat_cmp places → ((i : ℕ) (h : Held) → slice_get all i ≡ Some h → Has places i ⊎ (joins_now s a h ≡ false)) → layer_in places ≡ filter (joins_now s a) all
  layer_of_places places sorted names = picks_layer places all [] refl (picks_of Rests all 0 places (ascends places sorted) (low places) named)
    where
      low : (ps : List ℕ) → Each (λ p. 0 ≤ p) ps
      low [] = tt
      low (p ∷ ps) = (omega arith, low ps)

      named : (i : ℕ) (h : Held) → slice_get all i ≡ Some h → Has places (0 + i) ⊎ Rests h
      named i h at =
          let same : i ≡ 0 + i = omega arith in
          subst (λ n. Has places n ⊎ Rests h) same (names i h at)

  -- ---- which certificates wait for nothing

  open_or_rests : (w : DependencyIndex) → IsWaiting s a all w → (place : ℕ) (h : Held) → slice_get all place ≡ Some h → Has w.next.keys place ⊎ (joins_now s a h ≡ false)
  open_or_rests w filed place h at = go (filed.at place h at)
    where
      and_false : (b : Bool) → (b && false) ≡ false
      and_false true = refl
      and_false false = refl

      go : Filed s a [] w place h → Has w.next.keys place ⊎ (joins_now s a h ≡ false)
      go (was_run ran) = inr (ap (λ c. not c && is_let a h && are_made s.executed a h) ran)
      go (is_unadmitted unlet has) = inr (ap (λ c. not (is_executed s.executed h.digest) && c && are_made s.executed a h) unlet ∙ either (not (is_executed s.executed h.digest)) (are_made s.executed a h))
        where
          either : (b c : Bool) → (b && false && c) ≡ false
          either true c = refl
          either false c = refl
      go (comes_next may has made) = inl has
      go (is_behind may b) =
          inr (ap (λ c. not (is_executed s.executed h.digest) && is_let a h && c) (makes_not s.executed a h b.maker b.makes b.first) ∙ either (not (is_executed s.executed h.digest)) (is_let a h))
        where
          either : (b c : Bool) → (b && c && false) ≡ false
          either true true = refl
          either true false = refl
          either false c = refl
      go (is_loose has) = absurd has

  pub layer_now : (w : DependencyIndex) (places : List ℕ) → IsWaiting s a all w → IsStrictlySortedBy nat_cmp places → places ≡ w.next.keys → picked all (layer_places s a all places) ≡ filter (joins_now s a) all
  layer_now w places filed sorted same = layer_of_places places sorted (λ i h at. subst (λ ps. Has ps i ⊎ (joins_now s a h ≡ false)) (sym same) (open_or_rests w filed i h at))

-- ---- the loop over a layer

pub front_digests : (held : List Held) (txs new : List Digest) (rest : List ℕ) {all : List Digest} → 1 ≤ length rest → new ≡ with_digest txs (slice_get held (slice_index rest 0))
    → txs ++ map digest_of_held (picked held rest) ≡ all → new ++ map digest_of_held (picked held (take (length rest - 1) (drop 1 rest))) ≡ all
front_digests held txs new [] some is whole = absurd (omega (arith, some))
front_digests held txs new (p ∷ ps) some is whole =
    ap (λ l. new ++ map digest_of_held (picked held l)) (tail_is p ps)
    ∙ ap (λ ds. ds ++ map digest_of_held (picked held ps)) is
    ∙ go (slice_get held p)
    ∙ whole
  where
    go : (o : Option Held) → with_digest txs o ++ map digest_of_held (picked held ps) ≡ txs ++ map digest_of_held (cons_option o (picked held ps))
    go None = refl
    go (Some h) = append_assoc txs (h.digest ∷ []) (map digest_of_held (picked held ps))

-- ---- after a layer

planned_at : (test : Held → Bool) (hs : List Held) (place : ℕ) (h : Held) → slice_get hs place ≡ Some h → test h ≡ true → is_planned (filter test hs) h.digest ≡ true
planned_at test [] place h at is = absurd (cc)
planned_at test (k ∷ ks) zero h at is =
    ap (λ c. is_planned (cond c (k ∷ filter test ks) (filter test ks)) h.digest) (ap test same ∙ is)
    ∙ or_left (digest_eq k.digest h.digest) (is_planned (filter test ks) h.digest) (ap (λ (x : Held). digest_eq x.digest h.digest) same ∙ digest_self h.digest)
  where
    same : k ≡ h
    same = cc
planned_at test (k ∷ ks) (suc n) h at is = go (test k) (planned_at test ks n h at is)
  where
    go : (c : Bool) → is_planned (filter test ks) h.digest ≡ true → is_planned (cond c (k ∷ filter test ks) (filter test ks)) h.digest ≡ true
    go true there = or_right (digest_eq k.digest h.digest) (is_planned (filter test ks) h.digest) there
    go false there = there

module _ (s : Stored) (a : Admission) (held : List Held) (txs : List Digest) where
  abbrev before : Stored
  before = as_if txs s

  abbrev layer : List Held
  layer = joining before a held

  abbrev names : List Digest
  names = map digest_of_held layer

  abbrev more : List Digest
  more = insert_all digest_eq txs names

  abbrev after : Stored
  after = as_if more s

  known_more : (tx : Digest) → is_executed after.executed tx ≡ (is_executed before.executed tx || list_any (digest_eq tx) names)
  known_more tx =
      known_is more s tx
      ∙ ap (λ c. c || is_executed s.executed tx) (all_named names txs tx)
      ∙ go (list_any (digest_eq tx) txs) (list_any (digest_eq tx) names) (is_executed s.executed tx)
      ∙ ap (λ c. c || list_any (digest_eq tx) names) (sym (known_is txs s tx))
    where
      go : (n d e : Bool) → ((n || d) || e) ≡ ((n || e) || d)
      go true d e = refl
      go false true true = refl
      go false true false = refl
      go false false true = refl
      go false false false = refl

  has_joined : (place : ℕ) (h : Held) → slice_get held place ≡ Some h → joins_now before a h ≡ true → list_any (digest_eq h.digest) names ≡ true
  has_joined place h at is = planned_is layer h.digest ∙ planned_at (joins_now before a) held place h at is

  -- if all that a certificate wants is made, it is executed or joins the layer
  run_or_joins : (place : ℕ) (h : Held) → slice_get held place ≡ Some h → is_let a h ≡ true → are_made before.executed a h ≡ true → is_executed after.executed h.digest ≡ true
  run_or_joins place h at may made = known_more h.digest ∙ go (is_executed before.executed h.digest) refl
    where
      go : (c : Bool) → is_executed before.executed h.digest ≡ c → (is_executed before.executed h.digest || list_any (digest_eq h.digest) names) ≡ true
      go true ran = or_left (is_executed before.executed h.digest) (list_any (digest_eq h.digest) names) ran
      go false out =
          or_right (is_executed before.executed h.digest) (list_any (digest_eq h.digest) names)
          (has_joined place h at
          (ap (λ c. not c && is_let a h && are_made before.executed a h) out ∙ ap (λ c. c && are_made before.executed a h) may ∙ made))

  -- each certificate that waited for one of the layer is to be filed, and all else stands where it stood
  pub layer_filed : (old mid new : DependencyIndex) (freed : List ℕ) → IsWaiting before a held old → mid.unadmitted.entries ≡ old.unadmitted.entries → mid.behind.entries ≡ old.behind.entries
      → new.unadmitted.entries ≡ mid.unadmitted.entries → Frees mid.behind.entries new.behind.entries freed [] names → IsFiled after a freed held new
  layer_filed old mid new freed filed out same still frees = record { at = λ place h at. go place h at (filed.at place h at) }
    where
      waits : (place : ℕ) (h : Held) → is_let a h ≡ true → (b : IsBehind before.executed a old place h) → Has freed place ⊎ StaysListed new.behind.entries [] names b.maker place → Filed after a freed new place h
      waits place h may b (inl has) = is_loose has
      waits place h may b (inr stays) = is_behind may (record {
        maker = b.maker;
        listed = stays.listed;
        makes = b.makes;
        first = known_more b.maker ∙ ap (λ c. c || list_any (digest_eq b.maker) names) b.first ∙ sym (among_is names b.maker) ∙ stays.out;
      })

      go : (place : ℕ) (h : Held) → slice_get held place ≡ Some h → Filed before a [] old place h → Filed after a freed new place h
      go place h at (was_run ran) = was_run (known_more h.digest ∙ or_left (is_executed before.executed h.digest) (list_any (digest_eq h.digest) names) ran)
      go place h at (is_unadmitted unlet has) = is_unadmitted unlet (subst (λ (ls : Lists). Has (listed ls h.digest) place) (sym (still ∙ out)) has)
      go place h at (comes_next may has made) = was_run (run_or_joins place h at may made)
      go place h at (is_behind may b) = waits place h may b (frees.at b.maker place (subst (λ (ls : Lists). Has (listed ls b.maker) place) (sym same) b.listed))
      go place h at (is_loose has) = absurd has

  -- the places of the layer were taken
  pub layer_taken : AreApart held → (old : DependencyIndex) (taken looked : List ℕ) → IsWaiting before a held old → looked ≡ old.next.keys → AreTaken held txs taken → AreTaken held more (taken ++ looked)
  layer_taken apart old taken looked filed is were place h at named = either (or_true (list_any (digest_eq h.digest) txs) (list_any (digest_eq h.digest) names) (sym (all_named names txs h.digest) ∙ named))
    where
      opened : Has old.next.keys place ⊎ (joins_now before a h ≡ false) → joins_now before a h ≡ true → Has (taken ++ looked) place
      opened (inl has) joined = has_right taken looked place (subst (λ ps. Has ps place) (sym is) has)
      opened (inr out) joined = absurd (clash joined out)

      either : (list_any (digest_eq h.digest) txs ≡ true) ⊎ (list_any (digest_eq h.digest) names ≡ true) → Has (taken ++ looked) place
      either (inl earlier) = has_left taken looked place (were place h at earlier)
      either (inr new) =
          opened (open_or_rests before a held old filed place h at)
          (is_picked (joins_now before a) held apart place h at (sym (planned_is layer h.digest) ∙ new))

pub picked_join : (held : List Held) (xs ys : List ℕ) → picked held (xs ++ ys) ≡ picked held xs ++ picked held ys
picked_join held xs ys = filter_map-append (slice_get held) xs ys

-- ---- what the calls for a layer say

pub layer_found : (s : Stored) (a : Admission) (held : List Held) (w : DependencyIndex) (past : Stored) (looked sliced layer : List ℕ) → past ≡ s → sliced ≡ looked → layer ≡ layer_places past a held sliced → IsWaiting s a held w
    → IsStrictlySortedBy nat_cmp looked → looked ≡ w.next.keys → picked held layer ≡ joining s a held
layer_found s a held w past looked sliced places is same found filed sorted opened =
    ap (picked held) (found ∙ ap (λ (t : Stored). layer_places t a held sliced) is ∙ ap (layer_places s a held) same)
    ∙ layer_now s a held w looked filed sorted opened

pub empty_named : (txs : List Digest) (hs : List Held) → txs ≡ map digest_of_held hs → (length txs == 0) ≡ is_empty_list hs
empty_named txs hs is = ap (λ (ds : List Digest). length ds == 0) is ∙ go hs
  where
    go : (ks : List Held) → (length (map digest_of_held ks) == 0) ≡ is_empty_list ks
    go [] = refl
    go (k ∷ ks) = ne_eqb (suc (length (map digest_of_held ks))) 0 (λ e. absurd (omega (arith, e)))

-- before the first layer none is taken
pub none_taken : (held : List Held) (txs : List Digest) (taken : List ℕ) → txs ≡ [] → AreTaken held txs taken
none_taken held txs taken none place h at named = absurd (clash (ap (λ (ds : List Digest). list_any (digest_eq h.digest) ds) (sym none) ∙ named) refl)

-- ---- layer after layer

layers_end : (n : ℕ) (b : Books) (executed : List Execution) (planned : List Held) → layer_of b executed planned ≡ [] → layers_within n b executed planned ≡ []
layers_end zero b executed planned none = refl
layers_end (suc n) b executed planned none =
    ap (λ l. l ++ layers_within n b executed (planned ++ l)) none
    ∙ ap (layers_within n b executed) (append-nil planned)
    ∙ layers_end n b executed planned none

one_layer : (n : ℕ) (b : Books) (executed : List Execution) (planned : List Held) → 0 < n → layers_within n b executed planned ≡ layer_of b executed planned ++ layers_within (n - 1) b executed (planned ++ layer_of b executed planned)
one_layer zero b executed planned some = absurd (omega (arith, some))
one_layer (suc n) b executed planned some = ap (λ k. layer_of b executed planned ++ layers_within k b executed (planned ++ layer_of b executed planned)) (omega arith)

-- the layers that are left make up the whole plan
pub record Goes (s : Stored) (a : Admission) (held : List Held) (left : ℕ) (txs : List Digest) (planned : List Held) : Type 0 where
  pub whole : planned ++ layers_within left (books_of s a held) s.executed planned ≡ planned_of (books_of s a held) s.executed
  pub agrees : Agrees txs planned

module _ (s : Stored) (a : Admission) (held : List Held) where
  abbrev b : Books
  b = books_of s a held

  pub goes_first : (left : ℕ) (txs : List Digest) (planned : List Held) → left ≡ length held → txs ≡ [] → planned ≡ [] → Goes s a held left txs planned
  unfolding planned_of
  goes_first left txs planned counted none nothing = record {
    whole = ap (λ (hs : List Held). hs ++ layers_within left b s.executed hs) nothing ∙ ap (λ n. layers_within n b s.executed []) counted;
    agrees = λ tx. ap (λ (ds : List Digest). list_any (digest_eq tx) ds) none ∙ sym (ap (λ (hs : List Held). is_planned hs tx) nothing);
  }

  pub goes_next : (left : ℕ) (txs new : List Digest) (planned more : List Held) → Goes s a held left txs planned → 0 < left → more ≡ planned ++ joining (as_if txs s) a held
      → new ≡ insert_all digest_eq txs (map digest_of_held (joining (as_if txs s) a held)) → Goes s a held (left - 1) new more
  goes_next left txs new planned all goes some is named = record {
    whole =
        ap (λ (hs : List Held). hs ++ layers_within (left - 1) b s.executed hs) (is ∙ ap (λ (hs : List Held). planned ++ hs) layer)
        ∙ append_assoc planned (layer_of b s.executed planned) (layers_within (left - 1) b s.executed (planned ++ layer_of b s.executed planned))
        ∙ ap (λ (hs : List Held). planned ++ hs) (sym (one_layer left b s.executed planned some))
        ∙ goes.whole;
    agrees = λ tx. ap (list_any (digest_eq tx)) named ∙ agrees_more txs planned (joining (as_if txs s) a held) goes.agrees tx ∙ ap (λ (hs : List Held). is_planned hs tx) (sym is);
  }
    where
      layer : joining (as_if txs s) a held ≡ layer_of b s.executed planned
      layer = layer_is s a held txs planned goes.agrees

  -- if the layer is empty, or none is left, all is planned
  pub goes_last : (left : ℕ) (txs : List Digest) (planned more : List Held) → Goes s a held left txs planned → more ≡ planned ++ joining (as_if txs s) a held → is_empty_list (joining (as_if txs s) a held) ≡ true
      → more ≡ planned_of b s.executed
  goes_last left txs planned more goes is none =
      is ∙ ap (λ (hs : List Held). planned ++ hs) (empty (joining (as_if txs s) a held) none)
      ∙ ap (λ (hs : List Held). planned ++ hs) (sym (layers_end left b s.executed planned (sym (layer_is s a held txs planned goes.agrees) ∙ empty (joining (as_if txs s) a held) none)))
      ∙ goes.whole
    where
      empty : (hs : List Held) → is_empty_list hs ≡ true → hs ≡ []
      empty [] e = refl
      empty (h ∷ hs) e = absurd (cc)

  -- ---- after a plan

  pub parks : (txs : List Digest) (planned : List Held) (old new : DependencyIndex) (taken looked all : List ℕ) → Agrees txs planned → IsWaiting (as_if txs s) a held old → AreTaken held txs taken
      → looked ≡ old.next.keys → new.unadmitted.entries ≡ old.unadmitted.entries → new.behind.entries ≡ old.behind.entries → all ≡ taken ++ looked → AreParked s a planned all held new
  parks txs planned old new taken looked all agrees filed were opened out same is = record { at = λ place h at. subst (λ ps. Parked s a planned ps new place h) (sym is) (go place h at (filed.at place h at)) }
    where
      ran : (place : ℕ) (h : Held) → slice_get held place ≡ Some h → (list_any (digest_eq h.digest) txs ≡ true) ⊎ (is_executed s.executed h.digest ≡ true) → Parked s a planned (taken ++ looked) new place h
      ran place h at (inl named) = was_taken (has_left taken looked place (were place h at named))
      ran place h at (inr done) = has_run done

      second : (n d : Bool) → (n || d) ≡ false → d ≡ false
      second true d e = absurd (cc)
      second false d e = e

      first : (n d : Bool) → (n || d) ≡ false → n ≡ false
      first true d e = absurd (cc)
      first false d e = refl

      go : (place : ℕ) (h : Held) → slice_get held place ≡ Some h → Filed (as_if txs s) a [] old place h → Parked s a planned (taken ++ looked) new place h
      go place h at (was_run done) = ran place h at (or_true (list_any (digest_eq h.digest) txs) (is_executed s.executed h.digest) (sym (known_is txs s h.digest) ∙ done))
      go place h at (is_unadmitted unlet has) = lacks_admission unlet (subst (λ (ls : Lists). Has (listed ls h.digest) place) (sym out) has)
      go place h at (comes_next may has made) = was_taken (has_right taken looked place (subst (λ ps. Has ps place) (sym opened) has))
      go place h at (is_behind may c) =
          waits_behind may
          (record {
            maker = c.maker;
            listed = subst (λ (ls : Lists). Has (listed ls c.maker) place) (sym same) c.listed;
            makes = c.makes;
            first = second (list_any (digest_eq c.maker) txs) (is_executed s.executed c.maker) (sym (known_is txs s c.maker) ∙ c.first);
          })
          (sym (agrees c.maker) ∙ first (list_any (digest_eq c.maker) txs) (is_executed s.executed c.maker) (sym (known_is txs s c.maker) ∙ c.first))
      go place h at (is_loose has) = absurd has

  -- once some of the planned are executed, only the places that were taken are to be filed
  pub unparks : (planned : List Held) (kept : List Execution) (taken : List ℕ) (w : DependencyIndex) → ((tx : Digest) → is_executed kept tx ≡ true → is_planned planned tx ≡ true) → AreParked s a planned taken held w
      → IsFiled (with_executions s kept) a taken held w
  unparks planned kept taken w among parked = record { at = λ place h at. go place h (parked.at place h at) }
    where
      out : (tx : Digest) → is_planned planned tx ≡ false → (c : Bool) → is_executed kept tx ≡ c → is_executed kept tx ≡ false
      out tx unplanned false e = e
      out tx unplanned true e = absurd (clash (among tx e) unplanned)

      go : (place : ℕ) (h : Held) → Parked s a planned taken w place h → Filed (with_executions s kept) a taken w place h
      go place h (has_run done) = was_run (executed_join s.executed kept h.digest ∙ or_left (is_executed s.executed h.digest) (is_executed kept h.digest) done)
      go place h (lacks_admission unlet has) = is_unadmitted unlet has
      go place h (waits_behind may c unplanned) = is_behind may (record {
        maker = c.maker;
        listed = c.listed;
        makes = c.makes;
        first = executed_join s.executed kept c.maker ∙ ap (λ x. x || is_executed kept c.maker) c.first ∙ out c.maker unplanned (is_executed kept c.maker) refl;
      })
      go place h (was_taken has) = is_loose has
