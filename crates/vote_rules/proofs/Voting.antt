-- What a book finds, decides and takes, on the votes that it stands for.
use Rattle.std.proofs.Common.{◌≡◌, Bool, true, false, cond, List, [], ◌∷◌, ◌++◌, Option, Some, None, is_some, map, refl, ap, sym, ◌∙◌, option_map, subst}
use Rattle.std.specs.Prelude.{Result, find}
use Rattle.std.specs.Map.{lookup}
use Rattle.std.proofs.lemmas.List.{map-append}
use Rattle.indexmap.specs.IndexMap.{insert_entry}
use Rattle.tables.proofs.Lookups.{goes_last}
use Rattle.digest_core.specs.declared.Digest.{Digest}
use Rattle.chain_types.specs.declared.objects.ObjectKey.{ObjectKey}
use Rattle.chain_types.specs.declared.refusals.DecideRefusal.{DecideRefusal}
use Rattle.chain_types.specs.declared.transactions.Input.{Input}
use Rattle.chain_types.specs.declared.transactions.Input.TheVariants as inputs
use Rattle.chain_types.specs.declared.transactions.Transaction.{Transaction}
use Rattle.chain_types.specs.Equal.{digest_eq}
use Rattle.protocol_spec.proofs.Equality.{digest_turned}
use Rattle.protocol_spec.proofs.Truth.{some_mapped}
use Rattle.protocol_spec.specs.Chain.Words.{first_of}
use Rattle.protocol_spec.specs.Chain.Keys.{objects_of}
use Rattle.lock_table.specs.Locks.{Locks, locked_by, other_lock, unless_own, with_locks}
use Rattle.protocol_spec.specs.Member.Votes.{Cast, is_lock, locked, origin_of, vote_origins, vote_refusal}
use Rattle.version_store.specs.Stores.{Stored}
use Rattle.vote_rules.specs.Cases.{ballot_of}
use Rattle.vote_rules.specs.Decide.{Decides, StandFor, decide_refusal}
use Rattle.vote_rules.proofs.Locks.{decides_by_votes}
use Rattle.vote_rules.specs.declared.vote_store.Given.{Given}
use Rattle.vote_rules.specs.Casts.{ballot_with, cast_as, casts, voted_as}
use Rattle.vote_rules.proofs.Standing.{no_other, stands}

-- ---- look-ups

-- a look-up in the map is a search among the votes
found_as : (given : List (Digest × Given)) (tx : Digest) → option_map (λ (g : Given). g.origins) (lookup (digest_eq tx) given) ≡ option_map (λ (v : Cast). v.origins) (find (λ (v : Cast). digest_eq v.digest tx) (casts given))
found_as [] tx = refl
found_as (e ∷ es) tx =
    ap (λ b. option_map (λ (g : Given). g.origins) (cond b (Some e.1) (lookup (digest_eq tx) es))) (digest_turned tx e.0) ∙ by (digest_eq e.0 tx) (found_as es tx)
  where
    by : (b : Bool) → option_map (λ (g : Given). g.origins) (lookup (digest_eq tx) es) ≡ option_map (λ (v : Cast). v.origins) (find (λ (v : Cast). digest_eq v.digest tx) (casts es))
        → option_map (λ (g : Given). g.origins) (cond b (Some e.1) (lookup (digest_eq tx) es)) ≡ option_map (λ (v : Cast). v.origins) (cond b (Some (cast_as e)) (find (λ (v : Cast). digest_eq v.digest tx) (casts es)))
    by true more = refl
    by false more = more

-- what a look-up found
pub found : (given : List (Digest × Given)) (votes : List Cast) (tx : Digest) (o : Option Given) → o ≡ lookup (digest_eq tx) given → casts given ≡ votes
    → option_map (λ (g : Given). g.origins) o ≡ option_map (λ (v : Cast). v.origins) (find (λ (v : Cast). digest_eq v.digest tx) votes)
found given votes tx o is view =
    ap (option_map (λ (g : Given). g.origins)) is ∙ found_as given tx ∙ ap (λ vs. option_map (λ (v : Cast). v.origins) (find (λ (v : Cast). digest_eq v.digest tx) vs)) view

has_as : (given : List (Digest × Given)) (tx : Digest) → is_some (lookup (digest_eq tx) given) ≡ is_some (find (λ (v : Cast). digest_eq v.digest tx) (casts given))
has_as given tx =
    sym (some_mapped (λ (g : Given). g.origins) (lookup (digest_eq tx) given))
    ∙ ap is_some (found_as given tx)
    ∙ some_mapped (λ (v : Cast). v.origins) (find (λ (v : Cast). digest_eq v.digest tx) (casts given))

-- ---- the rule

-- an origin does not depend on the votes
origin_same : (s : Stored) (votes : List Cast) (i : Input) → origin_of (ballot_of s) i ≡ origin_of (ballot_with s votes) i
origin_same s votes (inputs.Pure bytes) = refl
origin_same s votes (inputs.Owned r) = refl
origin_same s votes (inputs.Immutable r) = refl
origin_same s votes (inputs.Shared id initial mutable) = refl

origins_same : (s : Stored) (votes : List Cast) (is : List Input) → map (origin_of (ballot_of s)) is ≡ map (origin_of (ballot_with s votes)) is
origins_same s votes [] = refl
origins_same s votes (i ∷ is) =
    ap (λ o. o ∷ map (origin_of (ballot_of s)) is) (origin_same s votes i) ∙ ap (λ os. origin_of (ballot_with s votes) i ∷ os) (origins_same s votes is)

named_same : (s : Stored) (votes : List Cast) (t : Transaction) → vote_origins (ballot_of s) t ≡ vote_origins (ballot_with s votes) t
unfolding vote_origins
named_same s votes t = origins_same s votes (objects_of t)

-- what the rule over the locks decides is decided by the votes
pub decided : (s : Stored) (locks : Locks) (held votes : List Cast) (t : Transaction) (tx : Digest) (r : Result (List (Option Digest)) DecideRefusal) → StandFor locks held → held ≡ votes
    → Decides (decide_refusal s locks t tx) (vote_origins (ballot_of s) t) r → Decides (vote_refusal (ballot_with s votes) t tx) (vote_origins (ballot_with s votes) t) r
decided s locks held votes t tx r stand view said =
    subst (λ vs. Decides (vote_refusal (ballot_with s vs) t tx) (vote_origins (ballot_with s vs) t) r) view
    (subst (λ o. Decides o (vote_origins (ballot_with s held) t) r) (decides_by_votes s locks held t tx stand)
    (subst (λ os. Decides (decide_refusal s locks t tx) os r) (named_same s held t) said))

-- ---- one more vote

-- the entries after one more vote, for a transaction that was not voted for
pub taken : (given : List (Digest × Given)) (votes : List Cast) (tx : Digest) (g : Given) → casts given ≡ votes → is_some (find (λ (v : Cast). digest_eq v.digest tx) votes) ≡ false
    → casts (insert_entry digest_eq given tx g) ≡ votes ++ voted_as tx g.consumed g.origins ∷ []
taken given votes tx g view new =
    ap casts (goes_last digest_eq given tx g (has_as given tx ∙ ap (λ vs. is_some (find (λ (v : Cast). digest_eq v.digest tx) vs)) view ∙ new))
    ∙ map-append cast_as given ((tx, g) ∷ [])
    ∙ ap (λ vs. vs ++ voted_as tx g.consumed g.origins ∷ []) view

-- locks stand for votes that are given up to equality
pub stand_at : {locks l : Locks} {votes vs : List Cast} → l ≡ locks → vs ≡ votes → StandFor locks votes → StandFor l vs
stand_at same view stand tx key =
    ap (λ ls. unless_own key tx (locked_by ls key)) same
    ∙ stand tx key
    ∙ sym (ap (λ xs. option_map (λ (v : Cast). (key, v.digest)) (find (is_lock tx key) xs)) view)

-- no other transaction holds a key that is free
pub unlocked : (locks : Locks) (held votes : List Cast) (tx : Digest) (keys : List ObjectKey) → StandFor locks held → held ≡ votes → first_of (locked votes tx) keys ≡ None → other_lock locks tx keys ≡ None
unlocked locks held votes tx keys stand view free = no_other locks votes tx keys (stand_at refl (sym view) stand) free

-- the book after one more vote
pub voted : (locks : Locks) (given : List (Digest × Given)) (votes : List Cast) (tx : Digest) (g : Given) {l : Locks} {mid after : List (Digest × Given)} → StandFor locks (casts given) → casts given ≡ votes → mid ≡ given
    → l ≡ with_locks locks g.consumed tx → after ≡ insert_entry digest_eq mid tx g
    → is_some (find (λ (v : Cast). digest_eq v.digest tx) votes) ≡ false → first_of (locked votes tx) g.consumed ≡ None
    → StandFor l (casts after) × (casts after ≡ votes ++ voted_as tx g.consumed g.origins ∷ [])
voted locks given votes tx g {l} {mid} {after} stand view same locks_are entries_are new free =
    let now : casts after ≡ votes ++ voted_as tx g.consumed g.origins ∷ [] = ap casts (entries_are ∙ ap (λ es. insert_entry digest_eq es tx g) same) ∙ taken given votes tx g view new in
    (stand_at locks_are now (stands locks votes (voted_as tx g.consumed g.origins) (stand_at refl (sym view) stand) free), now)
