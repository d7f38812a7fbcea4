-- Where held certificates stand, as places are filed and freed.
use Rattle.std.proofs.Common.{◌≡◌, ℕ, zero, suc, Bool, true, false, cond, ◌||◌, List, [], ◌∷◌, ◌++◌, map, length, Option, Some, None, inl, inr, refl, ap, sym, subst, ◌∙◌, ◌-◌, arith}
use Rattle.std.proofs.Math.ListN.{get_or}
use Rattle.std.specs.List.{list_all}
use Rattle.std.specs.List.Sorted.{IsStrictlySortedBy}
use Rattle.std.specs.Prelude.{OnErr, OnOk, Result, Ok, Err, ◌⊎◌, ◌≤◌, drop, slice_get, slice_index, take, unwrap_or}
use Rattle.std.specs.Map.{lookup}
use Rattle.std.specs.Ordering.{match_ordering, nat_cmp}
use Rattle.std.specs.declared.cmp.Ordering.{Ordering}
use Rattle.std.specs.declared.cmp.Ordering.TheVariants.{Less, Equal, Greater}
use Rattle.std.proofs.lemmas.Map.Lookups.{exact_unsigned}
use Rattle.digest_core.specs.declared.Digest.{Digest}
use Rattle.chain_types.specs.declared.objects.Producer.TheVariants as producers
use Rattle.protocol_spec.specs.declared.answers.Held.{Held}
use Rattle.chain_types.specs.Equal.{digest_eq}
use Rattle.protocol_spec.proofs.Equality.{digest_same, digest_self}
use Rattle.protocol_spec.proofs.ListLemmas.{has_left, has_right, tail_is}
use Rattle.protocol_spec.specs.Chain.Words.{Has}
use Rattle.protocol_spec.specs.Member.Admission.{Admission}
use Rattle.protocol_spec.specs.Member.Rounds.{Wanted, left}
use Rattle.version_store.specs.Stores.{Stored}
use Rattle.exec_plan.specs.declared.waiting.DependencyIndex.{DependencyIndex}
use Rattle.exec_plan.specs.Behind.{Frees, KeepsListed, Lists, StaysListed, is_among, listed}
use Rattle.exec_plan.specs.Books.{books_of, is_let, left_in}
use Rattle.exec_plan.specs.Steps.{left_after}
use Rattle.exec_plan.specs.Makers.{are_made, is_made, producer_in}
use Rattle.exec_plan.specs.Places.{placed}
use Rattle.exec_plan.specs.Waits.{Filed, IsFiled, IsWaiting, KeepsPlaces, StoodBefore, was_run, is_unadmitted, comes_next, is_behind, is_loose}
use Rattle.exec_plan.proofs.Growing.{let_grow, still_out, wants_grow}
use Rattle.exec_plan.proofs.LeftOver.{executed_stays, left_of_places, unlet_stays}
use Rattle.exec_plan.proofs.Making.{makes_not, unmade_stays}

-- ---- sets of places

pub placed_has : (set : List ℕ) (p : ℕ) → Has (placed set p) p
placed_has [] p = inl refl
placed_has (q ∷ qs) p = go (nat_cmp p q) refl (placed_has qs p)
  where
    go : (o : Ordering) → nat_cmp p q ≡ o → Has (placed qs p) p → Has (match_ordering o (p ∷ q ∷ qs) (q ∷ qs) (q ∷ placed qs p)) p
    go Less is later = inl refl
    go Equal is later = inl (sym (exact_unsigned p q is))
    go Greater is later = inr later

pub placed_keeps : (set : List ℕ) (p k : ℕ) → Has set k → Has (placed set p) k
placed_keeps [] p k has = absurd has
placed_keeps (q ∷ qs) p k has = go (nat_cmp p q) has (placed_keeps qs p k)
  where
    behind : (Has qs k → Has (placed qs p) k) → Has (q ∷ qs) k → Has (q ∷ placed qs p) k
    behind more (inl is) = inl is
    behind more (inr later) = inr (more later)

    go : (o : Ordering) → Has (q ∷ qs) k → (Has qs k → Has (placed qs p) k) → Has (match_ordering o (p ∷ q ∷ qs) (q ∷ qs) (q ∷ placed qs p)) k
    go Less has more = inr has
    go Equal has more = has
    go Greater has more = behind more has

-- ---- what stands where

-- what is kept stays
pub filed_kept : (s : Stored) (a : Admission) (loose : List ℕ) (old new : DependencyIndex) (place : ℕ) (h : Held) → KeepsPlaces old new → Filed s a loose old place h → Filed s a loose new place h
filed_kept s a loose old new place h kept (was_run is) = was_run is
filed_kept s a loose old new place h kept (is_unadmitted out has) = is_unadmitted out (kept.unadmitted h.digest place has)
filed_kept s a loose old new place h kept (comes_next may has made) = comes_next may (kept.next place has) made
filed_kept s a loose old new place h kept (is_behind may b) = is_behind may (record { maker = b.maker; listed = kept.listed b.maker place b.listed; makes = b.makes; first = b.first })
filed_kept s a loose old new place h kept (is_loose has) = is_loose has

pub all_kept : (s : Stored) (a : Admission) (held : List Held) (old new : DependencyIndex) → KeepsPlaces old new → IsWaiting s a held old → IsWaiting s a held new
all_kept s a held old new kept filed = record { at = λ place h is. filed_kept s a [] old new place h kept (filed.at place h is) }

-- one more certificate, which is filed
pub one_more : (s : Stored) (a : Admission) (held : List Held) (h : Held) (old new : DependencyIndex) → KeepsPlaces old new → IsWaiting s a held old → Filed s a [] new (length held) h → IsWaiting s a (held ++ h ∷ []) new
one_more s a held h old new kept filed last = record { at = stands }
  where
    go : (Stands : Type 0) (k : Held) (hs : List Held) (n : ℕ) → slice_get (hs ++ h ∷ []) n ≡ Some k → (slice_get hs n ≡ Some k → Stands) → (n ≡ length hs → h ≡ k → Stands) → Stands
    go Stands k [] zero at among end = end refl (cc)
    go Stands k [] (suc n) at among end = absurd (cc)
    go Stands k (j ∷ hs) zero at among end = among at
    go Stands k (j ∷ hs) (suc n) at among end = go Stands k hs n at among (λ is. end (ap suc is))

    stands : (place : ℕ) (k : Held) → slice_get (held ++ h ∷ []) place ≡ Some k → Filed s a [] new place k
    stands place k at =
        go (Filed s a [] new place k) k held place at
        (λ same. filed_kept s a [] old new place k kept (filed.at place k same))
        (λ far is. subst (λ (j : Held). Filed s a [] new place j) is (subst (λ n. Filed s a [] new n h) (sym far) last))

-- one place fewer is still to be filed
pub one_filed : (s : Stored) (a : Admission) (held : List Held) (p : ℕ) (ps : List ℕ) (old new : DependencyIndex) → KeepsPlaces old new → ((h : Held) → slice_get held p ≡ Some h → Filed s a [] new p h)
    → IsFiled s a (p ∷ ps) held old → IsFiled s a ps held new
one_filed s a held p ps old new kept here filed = record { at = λ place h is. go place h is (filed_kept s a (p ∷ ps) old new place h kept (filed.at place h is)) }
  where
    more : (n : ℕ) (h : Held) → Filed s a [] new n h → Filed s a ps new n h
    more n h (was_run is) = was_run is
    more n h (is_unadmitted out has) = is_unadmitted out has
    more n h (comes_next may has made) = comes_next may has made
    more n h (is_behind may b) = is_behind may b
    more n h (is_loose has) = absurd has

    go : (place : ℕ) (h : Held) → slice_get held place ≡ Some h → Filed s a (p ∷ ps) new place h → Filed s a ps new place h
    go place h at (was_run is) = was_run is
    go place h at (is_unadmitted out has) = is_unadmitted out has
    go place h at (comes_next may has made) = comes_next may has made
    go place h at (is_behind may b) = is_behind may b
    go place h at (is_loose (inl is)) = subst (λ n. Filed s a ps new n h) is (more p h (here h (ap (slice_get held) is ∙ at)))
    go place h at (is_loose (inr has)) = is_loose has

-- the first of the places that are left
pub front_filed : (s : Stored) (a : Admission) (held : List Held) (rest : List ℕ) (old new : DependencyIndex) → KeepsPlaces old new
    → ((h : Held) → slice_get held (slice_index rest 0) ≡ Some h → Filed s a [] new (slice_index rest 0) h) → 1 ≤ length rest → IsFiled s a rest held old
    → IsFiled s a (take (length rest - 1) (drop 1 rest)) held new
front_filed s a held [] old new kept here some filed = absurd (omega (arith, some))
front_filed s a held (p ∷ ps) old new kept here some filed = subst (λ (qs : List ℕ). IsFiled s a qs held new) (sym (tail_is p ps)) (one_filed s a held p ps old new kept here filed)

-- ---- after an admission

-- the places of the newly admitted are to be filed, and all else stands where it stood
pub woken : (s : Stored) (after : Admission) (txs : List Digest) (held : List Held) (old new : DependencyIndex) (freed : List ℕ) → StoodBefore s after txs held old → new.next.keys ≡ old.next.keys
    → new.behind.entries ≡ old.behind.entries → Frees old.unadmitted.entries new.unadmitted.entries freed [] txs → IsFiled s after freed held new
woken s after txs held old new freed stood next behind frees = record { at = λ place h at. go place h (stood.waits.at place h at) }
  where
    out : (place : ℕ) (h : Held) → is_let stood.before h ≡ false → Has freed place ⊎ StaysListed new.unadmitted.entries [] txs h.digest place → Filed s after freed new place h
    out place h unlet (inl has) = is_loose has
    out place h unlet (inr stays) = is_unadmitted (still_out stood.before after txs stood.admits h unlet stays.out) stays.listed

    made : (h : Held) → is_let stood.before h ≡ true → are_made s.executed stood.before h ≡ true → are_made s.executed after h ≡ true
    made h may is = ap (list_all (is_made s.executed)) (wants_grow stood.before after txs stood.admits h may) ∙ is

    go : (place : ℕ) (h : Held) → Filed s stood.before [] old place h → Filed s after freed new place h
    go place h (was_run ran) = was_run ran
    go place h (is_unadmitted unlet has) = out place h unlet (frees.at h.digest place has)
    go place h (comes_next may has is) =
        comes_next (let_grow stood.before after txs stood.admits h may) (subst (λ ks. Has ks place) (sym next) has) (made h may is)
    go place h (is_behind may b) = is_behind (let_grow stood.before after txs stood.admits h may) (record {
      maker = b.maker;
      listed = subst (λ (ls : Lists). Has (listed ls b.maker) place) (sym behind) b.listed;
      makes = subst (λ (ws : List Wanted). Has (map producer_in ws) (Some (producers.Tx b.maker))) (sym (wants_grow stood.before after txs stood.admits h may)) b.makes;
      first = b.first;
    })
    go place h (is_loose has) = absurd has

-- ---- what a run leaves

-- one that waits for a transaction, or is executed, is not left
pub open_or_stays : (s : Stored) (a : Admission) (held : List Held) (w : DependencyIndex) → IsWaiting s a held w → (place : ℕ) (h : Held) → slice_get held place ≡ Some h
    → Has w.next.keys place ⊎ (left_in s a h ≡ None)
open_or_stays s a held w filed place h at = go (filed.at place h at)
  where
    go : Filed s a [] w place h → Has w.next.keys place ⊎ (left_in s a h ≡ None)
    go (was_run ran) = inr (executed_stays s a h ran)
    go (is_unadmitted unlet has) = inr (unlet_stays s a h unlet)
    go (comes_next may has made) = inl has
    go (is_behind may b) = inr (unmade_stays s a h (makes_not s.executed a h b.maker b.makes b.first))
    go (is_loose has) = absurd has

-- ---- lists after transactions

pub push_keeps : {A : Type 0} → (xs : List A) (x y : A) → Has xs y → Has (xs ++ x ∷ []) y
push_keeps [] x y has = absurd has
push_keeps (z ∷ zs) x y (inl is) = inl is
push_keeps (z ∷ zs) x y (inr has) = inr (push_keeps zs x y has)

-- how a map of lists reads after a change at one key
pub kept_listed : (old new : Lists) (tx : Digest) (before after : List ℕ) → listed old tx ≡ before → ((p : ℕ) → Has before p → Has after p)
    → ((q : Digest) → lookup (digest_eq q) new ≡ cond (digest_eq tx q) (Some after) (lookup (digest_eq q) old)) → KeepsListed old new
kept_listed old new tx before after was more reads q p has = go (digest_eq tx q) refl
  where
    go : (b : Bool) → digest_eq tx q ≡ b → Has (listed new q) p
    go true same =
        subst (λ (ps : List ℕ). Has ps p) (sym (ap (λ (o : Option (List ℕ)). unwrap_or o []) (reads q ∙ ap (λ c. cond c (Some after) (lookup (digest_eq q) old)) same)))
        (more p (subst (λ (ps : List ℕ). Has ps p) (ap (listed old) (sym (digest_same tx q same)) ∙ was) has))
    go false other =
        subst (λ (ps : List ℕ). Has ps p) (sym (ap (λ (o : Option (List ℕ)). unwrap_or o []) (reads q ∙ ap (λ c. cond c (Some after) (lookup (digest_eq q) old)) other))) has

-- a list that was added to, or stayed
pub grows : {E : Type 0} → (r : Result (Unit {0}) E) (xs ys : List ℕ) (p : ℕ) → OnOk r (ys ≡ xs ++ p ∷ []) → OnErr r (ys ≡ xs) → (k : ℕ) → Has xs k → Has ys k
grows (Ok u) xs ys p ok err k has = subst (λ (zs : List ℕ). Has zs k) (sym ok) (push_keeps xs p k has)
grows (Err e) xs ys p ok err k has = subst (λ (zs : List ℕ). Has zs k) (sym err) has

pub now_listed : (old new : Lists) (tx : Digest) (after : List ℕ) (p : ℕ) → Has after p → ((q : Digest) → lookup (digest_eq q) new ≡ cond (digest_eq tx q) (Some after) (lookup (digest_eq q) old)) → Has (listed new tx) p
now_listed old new tx after p has reads =
    subst (λ (ps : List ℕ). Has ps p) (sym (ap (λ (o : Option (List ℕ)). unwrap_or o []) (reads tx ∙ ap (λ c. cond c (Some after) (lookup (digest_eq tx) old)) (digest_self tx)))) has

-- nothing is freed before the first
pub none_freed : (lists : Lists) (all : List Digest) → Frees lists lists [] all all
none_freed lists all = record { at = λ tx place has. inr (record { listed = has; out = refl }) }

-- the places under one more transaction are freed
pub one_freed : (old mid new : Lists) (freed more : List ℕ) (x : Digest) (left all : List Digest) → Frees old mid freed (x ∷ left) all → more ≡ freed ++ listed mid x
    → ((q : Digest) → digest_eq x q ≡ false → listed new q ≡ listed mid q) → Frees old new more left all
one_freed old mid new freed more x left all frees is others = record { at = λ tx place has. go tx place (frees.at tx place has) }
  where
    apart : (tx : Digest) (place : ℕ) (b : Bool) → digest_eq x tx ≡ b → StaysListed mid (x ∷ left) all tx place → Has more place ⊎ StaysListed new left all tx place
    apart tx place true same stays =
        inl (subst (λ (ps : List ℕ). Has ps place) (sym is) (has_right freed (listed mid x) place (subst (λ (q : Digest). Has (listed mid q) place) (sym (digest_same x tx same)) stays.listed)))
    apart tx place false other stays = inr (record {
      listed = subst (λ (ps : List ℕ). Has ps place) (sym (others tx other)) stays.listed;
      out = stays.out ∙ ap (λ (b : Bool). b || is_among left tx) other;
    })

    go : (tx : Digest) (place : ℕ) → Has freed place ⊎ StaysListed mid (x ∷ left) all tx place → Has more place ⊎ StaysListed new left all tx place
    go tx place (inl done) = inl (subst (λ (ps : List ℕ). Has ps place) (sym is) (has_left freed (listed mid x) place done))
    go tx place (inr stays) = apart tx place (digest_eq x tx) refl stays

-- the first of the transactions that are left
pub front_freed : (old mid new : Lists) (freed more : List ℕ) (d : Digest) (rest all : List Digest) → 1 ≤ length rest → Frees old mid freed rest all → more ≡ freed ++ listed mid (get_or rest 0 d)
    → ((q : Digest) → digest_eq (get_or rest 0 d) q ≡ false → listed new q ≡ listed mid q) → Frees old new more (take (length rest - 1) (drop 1 rest)) all
front_freed old mid new freed more d [] all some frees is others = absurd (omega (arith, some))
front_freed old mid new freed more d (y ∷ ys) all some frees is others =
    subst (λ (ds : List Digest). Frees old new more ds all) (sym (tail_is y ys)) (one_freed old mid new freed more y ys all frees is others)

-- ---- the calls

pub nothing_waits : (s : Stored) (a : Admission) (w : DependencyIndex) → IsWaiting s a [] w
nothing_waits s a w = record { at = λ place h is. absurd (none place h is) }
  where
    none : (place : ℕ) (h : Held) → slice_get [] place ≡ Some h → ⊥
    none place h is = cc

pub on_err : {T E P : Type 0} → (r : Result T E) → P → OnErr r P
on_err (Ok x) p = tt
on_err (Err e) p = p

-- those left of the places that wait for nothing
pub left_now : (s : Stored) (a : Admission) (held : List Held) (w : DependencyIndex) (places : List ℕ) → IsWaiting s a held w → IsStrictlySortedBy nat_cmp places → places ≡ w.next.keys
    → left_after s a held [] places ≡ left (books_of s a held) s.executed
left_now s a held w places filed sorted same = left_of_places s a held places sorted (λ i h at. subst (λ ps. Has ps i ⊎ (left_in s a h ≡ None)) (sym same) (open_or_stays s a held w filed i h at))
