-- Each transaction of a run is executed under the digest that its effects name.
use Rattle.std.proofs.Common.{◌≡◌, ℕ, zero, suc, Bool, true, false, cond, not, ◌&&◌, List, [], ◌∷◌, ◌++◌, map, Option, Some, None, refl, ap, sym, ◌∙◌}
use Rattle.std.specs.Prelude.{IfSome}
use Rattle.digest_core.specs.declared.Digest.{Digest}
use Rattle.chain_types.specs.declared.objects.Object.{Object}
use Rattle.effects_core.specs.Effects.{digest_of_effects}
use Rattle.protocol_spec.specs.declared.pieces.Executed.{Executed}
use Rattle.protocol_spec.specs.declared.answers.Held.{Held}
use Rattle.protocol_spec.proofs.Executions.{effects_tx}
use Rattle.protocol_spec.proofs.ListLemmas.{each_push}
use Rattle.protocol_spec.specs.Chain.Words.{Each, where_true}
use Rattle.protocol_spec.specs.Chain.Keys.{fits}
use Rattle.protocol_spec.specs.Block.Execution.{execution, written_keys}
use Rattle.protocol_spec.specs.Member.Versions.{Execution, is_executed, versions}
use Rattle.protocol_spec.specs.Member.Rounds.{Books, clashes, executes_as, may_run, present, ready, ready_as, ready_on, round_add, round_among, round_of, rounds, rounds_within, writes_new}
use Rattle.protocol_spec.specs.Member.Member.{Member, books}
use Rattle.protocol_spec.specs.Member.Calls.{effects_of, ran_item, ran_items}
use Rattle.exec_plan.specs.Books.{IsSound}
use Rattle.validator_core.specs.Steps.{items_of}

-- its effects name its digest
abbrev pub IsNamed : Execution → Type 0
IsNamed x = x.gave.effects.tx ≡ x.digest

ready_named : (b : Books) (executed : List Execution) (h : Held) → IsSound h → IfSome (ready b executed h) IsNamed
unfolding ready
ready_named b executed h sound = go (not (is_executed executed h.digest) && may_run b h) (present b executed h)
  where
    writing : (gave : Executed) → gave.effects.tx ≡ h.digest → (w : Bool) → IfSome (where_true w (executes_as h gave)) IsNamed
    writing gave named false = tt
    writing gave named true = named

    fitting : (objects : List Object) (f : Bool) → IfSome (cond f (ready_as b executed h (execution h.cert.tx objects)) None) IsNamed
    fitting objects false = tt
    fitting objects true =
        writing (execution h.cert.tx objects) (effects_tx h.cert.tx objects ∙ sym sound.1) (writes_new (versions b.opening executed) (written_keys (execution h.cert.tx objects)))

    go : (y : Bool) (p : Option (List Object)) → IfSome (cond y (ready_on b executed h p) None) IsNamed
    go false p = tt
    go true None = tt
    go true (Some objects) = fitting objects (fits h.cert.tx objects)

add_named : (round : List Execution) (o : Option Execution) → Each IsNamed round → IfSome o IsNamed → Each IsNamed (round_add round o)
add_named round None named is = named
add_named round (Some x) named is = go (clashes round x)
  where
    go : (c : Bool) → Each IsNamed (cond c round (round ++ x ∷ []))
    go true = named
    go false = each_push IsNamed round x named is

round_named : (b : Books) (executed round : List Execution) (hs : List Held) → Each IsNamed round → Each IsSound hs → Each IsNamed (round_among b executed round hs)
round_named b executed round [] named sound = named
round_named b executed round (h ∷ hs) named sound =
    round_named b executed (round_add round (ready b executed h)) hs (add_named round (ready b executed h) named (ready_named b executed h sound.0)) sound.1

each_join : (xs ys : List Execution) → Each IsNamed xs → Each IsNamed ys → Each IsNamed (xs ++ ys)
each_join [] ys one other = other
each_join (x ∷ xs) ys one other = (one.0, each_join xs ys one.1 other)

within_named : (n : ℕ) (b : Books) (executed : List Execution) → Each IsSound b.held → Each IsNamed (rounds_within n b executed)
unfolding round_of
within_named zero b executed sound = tt
within_named (suc n) b executed sound =
    each_join (round_of b executed) (rounds_within n b (executed ++ round_of b executed)) (round_named b executed [] b.held tt sound) (within_named n b (executed ++ round_of b executed) sound)

same_items : (xs : List Execution) → Each IsNamed xs → items_of (map effects_of xs) ≡ map ran_item xs
same_items [] named = refl
same_items (x ∷ xs) named =
    ap (λ (d : Digest). record { tx = d; effects = digest_of_effects x.gave.effects } ∷ items_of (map effects_of xs)) named.0 ∙ ap (λ is. ran_item x ∷ is) (same_items xs named.1)

-- the items of a run's effects are those of its record
pub ran_named : (m : Member) → Each IsSound m.held → items_of (map effects_of (rounds (books m) m.executed)) ≡ ran_items m
unfolding rounds
ran_named m sound = same_items (rounds (books m) m.executed) (within_named _ (books m) m.executed sound)
