-- What a whole run hands to its members is given of each call; and what each world of it is sound for.
use Rattle.std.proofs.Common.{inl, inr, refl, sym, subst}
use Rattle.std.proofs.lemmas.Bool.{eq-eqb}
use Rattle.std.specs.Prelude.{◌≡◌, ◌⊎◌, ℕ, Bool, true, false, cond, List, [], ◌∷◌, ◌++◌, map, flat_map, Option, Some, None}
use Rattle.chain_types.specs.declared.transactions.Transaction.{Transaction}
use Rattle.chain_types.specs.declared.transactions.SignedTx.{SignedTx}
use Rattle.chain_messages.specs.declared.messages.Certificate.{Certificate}
use Rattle.chain_messages.specs.declared.messages.Entry.{Entry}
use Rattle.schedule_text.specs.declared.words.Event.{Event}
use Rattle.protocol_spec.proofs.ListLemmas.{has_right, has_map, has_parts, has_left}
use Rattle.protocol_spec.specs.Chain.Words.{Has, Each}
use Rattle.protocol_spec.specs.Member.Calls.{Call}
use Rattle.world_spec.specs.Setting.{Setting}
use Rattle.world_spec.specs.World.{Made, World, new_world}
use Rattle.world_spec.specs.Step.{happens}
use Rattle.world_spec.specs.Run.{world_after}
use Rattle.world_spec.specs.Assumptions.{calls_of, signed_read, asked, all_of, all_formed, all_delivered, all_transactions}
use Rattle.safety_law.proofs.InWorld.{any-given, each-any}
use Rattle.safety_law.specs.Owners.{callee, is_member, handed}
use Rattle.safety_law.proofs.Steps.{IsBacked, AllGiven, step-run}
use Rattle.safety_law.proofs.Sound.{IsSound, IsGiven, sound-keeps}

pub each-all : {A : Type 0} (P : A → Type 0) (xs : List A) → ((x : A) → Has xs x → P x) → Each P xs
each-all P [] all = tt
each-all P (x ∷ xs) all = (all x (inl refl), each-all P xs (λ y h. all y (inr h)))

-- what holds of all that the elements give
pub flat-each : {A B : Type 0} (f : A → List B) (P : B → Type 0) (xs : List A) → ((y : B) → Has (flat_map f xs) y → P y) → Each (λ (x : A). Each P (f x)) xs
flat-each f P [] all = tt
flat-each f P (x ∷ xs) all = (each-all P (f x) (λ y h. all y (has_left (f x) (flat_map f xs) y h)), flat-each f P xs (λ y h. all y (has_right (f x) (flat_map f xs) y h)))

-- ---- what a run hands to its members

module _ (s : Setting) where
  -- a call is on a member that was handed what is read from it
  abbrev pub IsHandedCall : (ℕ → List SignedTx) → Option ℕ → Call → Type 0
  IsHandedCall total None call = Unit {0}
  IsHandedCall total (Some m) call = Each (Has (total m)) (signed_read s.rules call)

  handed-is : (m : ℕ) (w : World) (e : Event) → callee e ≡ Some m → handed m s w e ≡ asked s w e
  unfolding handed
  handed-is m w e q = go (callee e) q
    where
      go : (c : Option ℕ) → c ≡ Some m → cond (is_member m c) (asked s w e) [] ≡ asked s w e
      go None q = absurd (cc)
      go (Some n) q = rw (eq-eqb n m (same q)) refl
        where
          same : Some n ≡ Some m → n ≡ m
          same q = cc

  handed-asked : (m : ℕ) (w : World) (e : Event) (x : SignedTx) → Has (handed m s w e) x → Has (asked s w e) x
  unfolding handed
  handed-asked m w e x h = go (is_member m (callee e)) h
    where
      go : (b : Bool) → Has (cond b (asked s w e) []) x → Has (asked s w e) x
      go true h = h
      go false h = absurd h

  pub handed-among : (m : ℕ) (events : List Event) (w : World) (x : SignedTx) → Has (all_of (handed m) s events w) x → Has (all_of asked s events w) x
  handed-among m [] w x h = h
  handed-among m (e ∷ events) w x h = go (has_parts (handed m s w e) (all_of (handed m) s events (happens s w e)) x h) (handed-among m events (happens s w e) x)
    where
      go : Has (handed m s w e) x ⊎ Has (all_of (handed m) s events (happens s w e)) x → (Has (all_of (handed m) s events (happens s w e)) x → Has (all_of asked s events (happens s w e)) x) → Has (all_of asked s (e ∷ events) w) x
      go (inl h) rest = has_left (asked s w e) (all_of asked s events (happens s w e)) x (handed-asked m w e x h)
      go (inr h) rest = has_right (asked s w e) (all_of asked s events (happens s w e)) x (rest h)

  line-given : (total : ℕ → List SignedTx) (w : World) (e : Event) → ((m : ℕ) (x : SignedTx) → Has (handed m s w e) x → Has (total m) x) → Each (IsHandedCall total (callee e)) (calls_of s w e)
  unfolding asked
  line-given total w e sub = go (callee e) refl
    where
      go : (c : Option ℕ) → callee e ≡ c → Each (IsHandedCall total c) (calls_of s w e)
      go None q = each-any (calls_of s w e)
      go (Some m) q = flat-each (signed_read s.rules) (Has (total m)) (calls_of s w e) (λ y h. sub m y (subst (λ (ys : List SignedTx). Has ys y) (sym (handed-is m w e q)) h))

  pub handed-given : (total : ℕ → List SignedTx) (events : List Event) (w : World) → ((m : ℕ) (x : SignedTx) → Has (all_of (handed m) s events w) x → Has (total m) x) → AllGiven s (IsHandedCall total) events w
  handed-given total [] w sub = tt
  handed-given total (e ∷ events) w sub = (
    line-given total w e (λ m x h. sub m x (has_left (handed m s w e) (all_of (handed m) s events (happens s w e)) x h)),
    handed-given total events (happens s w e) (λ m x h. sub m x (has_right (handed m s w e) (all_of (handed m) s events (happens s w e)) x h)),
  )

  -- ---- the world at the end

  pub sound-new : IsSound s (new_world s)
  unfolding new_world
  sound-new = record { made = λ t h. absurd h; told = λ x h. absurd h; voted = λ f h. absurd h; sealed = λ f h. absurd h; backed = none }
    where
      none : (es : List Entry) → Has ([] ∷ []) es → (e : Entry) → Has es e → IsBacked (new_world s) e
      none es (inl q) e k = absurd (subst (λ (ys : List Entry). Has ys e) (sym q) k)
      none es (inr h) e k = absurd h

  pub sound-after : (events : List Event) → IsSound s (world_after s events)
  unfolding world_after
  sound-after events = step-run s (λ _ _. Unit {0}) (IsSound s) (sound-keeps s) events (new_world s) (any-given s events (new_world s)) sound-new

-- ---- all transactions of the run

pub given-among : (s : Setting) (events : List Event) (t : Transaction) → IsGiven (all_of asked s events (new_world s)) (world_after s events).txs t → Has (all_transactions s events) t
unfolding all_transactions
given-among s events t (inl (x, h, e)) = has_left _ _ t (subst (Has (map (λ (y : Made). y.signed.tx) (world_after s events).txs)) e (has_map (λ (y : Made). y.signed.tx) (world_after s events).txs x h))
given-among s events t (inr (x, h, e)) =
    has_right (map (λ (y : Made). y.signed.tx) (world_after s events).txs) _ t
    (has_left (map (λ (y : SignedTx). y.tx) (all_of asked s events (new_world s))) _ t (subst (Has (map (λ (y : SignedTx). y.tx) (all_of asked s events (new_world s)))) e (has_map (λ (y : SignedTx). y.tx) (all_of asked s events (new_world s)) x h)))

pub certificate-among : (s : Setting) (events : List Event) (c : Certificate) → Has (all_formed s events ++ all_delivered s events) c → Has (all_transactions s events) c.tx
unfolding all_transactions
certificate-among s events c h =
    has_right (map (λ (y : Made). y.signed.tx) (world_after s events).txs) _ c.tx
    (has_right (map (λ (y : SignedTx). y.tx) (all_of asked s events (new_world s))) _ c.tx (has_map (λ (d : Certificate). d.tx) (all_formed s events ++ all_delivered s events) c h))
