-- Which held certificates a run plans, and in which order: layer by layer. Source: this profile.
use Rattle.std.specs.Prelude.{ℕ, zero, suc, Bool, true, not, ◌&&◌, ◌||◌, List, [], ◌∷◌, ◌++◌, filter, length, Option, Some, None}
use Rattle.std.specs.List.{list_any, list_all}
use Rattle.digest_core.specs.declared.Digest.{Digest}
use Rattle.chain_types.specs.declared.objects.Producer.{Producer}
use Rattle.chain_types.specs.declared.objects.Producer.TheVariants as producers
use Rattle.protocol_spec.specs.declared.answers.Held.{Held}
use Rattle.chain_types.specs.Equal.{digest_eq}
use Rattle.protocol_spec.specs.Member.Versions.{Execution, is_executed}
use Rattle.protocol_spec.specs.Member.Rounds.{Books, Wanted, may_run, ready, wants_of}

abbrev pub is_of : Digest → Held → Bool
is_of tx h = digest_eq h.digest tx

-- the transaction is one of those planned
abbrev pub is_planned : List Held → Digest → Bool
is_planned planned tx = list_any (is_of tx) planned

-- the transaction that makes the version is executed or planned; none need be for an opening object, or for one that was not assigned
abbrev pub is_maker_planned : List Execution → List Held → Option Producer → Bool
is_maker_planned executed planned None = true
is_maker_planned executed planned (Some producers.Opening) = true
is_maker_planned executed planned (Some (producers.Tx tx)) = is_executed executed tx || is_planned planned tx

abbrev pub is_supplied : List Execution → List Held → Wanted → Bool
is_supplied executed planned w = is_maker_planned executed planned w.producer

-- not executed, in no earlier layer, admitted if it has a shared input, and all that makes what it wants is executed or
-- in an earlier layer
abbrev pub joins_layer : Books → List Execution → List Held → Held → Bool
joins_layer b executed planned h =
    not (is_executed executed h.digest) && not (is_planned planned h.digest) && may_run b h
    && list_all (is_supplied executed planned) (wants_of b.admission h)

-- the layer after those planned, in order of holding
abbrev pub layer_of : Books → List Execution → List Held → List Held
layer_of b executed planned = filter (joins_layer b executed planned) b.held

-- at most this many layers; after an empty one all are empty
abbrev pub layers_within : ℕ → Books → List Execution → List Held → List Held
layers_within zero b executed planned = []
layers_within (suc n) b executed planned = layer_of b executed planned ++ layers_within n b executed (planned ++ layer_of b executed planned)

-- what a run plans, in order: a layer holds one certificate at least, or is the last
unfoldable pub planned_of : Books → List Execution → List Held
planned_of b executed = layers_within (length b.held) b executed []

-- ---- planned certificates executed one after the other

-- what comes next, after this one more execution if there is one
abbrev pub onto_kept : (List Execution → List Execution) → List Execution → Option Execution → List Execution
onto_kept next executed None = next executed
onto_kept next executed (Some x) = x ∷ next (executed ++ x ∷ [])

-- what is executed if one goes over these certificates once, and executes each that is ready after those before it
abbrev pub in_turn : Books → List Execution → List Held → List Execution
in_turn b executed [] = []
in_turn b executed (h ∷ hs) = onto_kept (λ more. in_turn b more hs) executed (ready b executed h)
