-- The origins that a false vote names.
use Rattle.std.proofs.Common.{arith, ◌≡◌, ◌∙◌, ap, sym, ◌≤◌, ◌<◌, Bool, List, [], ◌∷◌, ◌++◌, map, length, append_assoc, append-nil, Option, Some, None}
use Rattle.std.specs.Prelude.{filter, fold}
use Rattle.digest_core.specs.declared.Digest.{Digest}
use Rattle.chain_types.specs.declared.transactions.Input.{Input}
use Rattle.chain_types.specs.declared.transactions.Input.TheVariants as input
use Rattle.chain_types.specs.declared.transactions.Transaction.{Transaction}
use Rattle.chain_types.specs.Digests.{is_object}
use Rattle.world_spec.specs.Setting.{Name}
use Rattle.world_spec.specs.World.{Made, Said}
use Rattle.world_spec.specs.Step.{no_origins, origin_word, origins_or}
use Rattle.world_spec.specs.Known.{Known, world_with}
use Rattle.world_lines.specs.FalseVotes.{origins_by, with_none}
use Rattle.world_lines.specs.SaidVotes.{first_vote}

nones : (origins : List (Option Digest)) (inputs : List Input) → fold with_none origins inputs ≡ origins ++ map (λ (i : Input). let o : Option Digest = None in o) (filter is_object inputs)
nones origins [] = sym (append-nil origins)
nones origins (input.Pure bytes ∷ is) = nones origins is
nones origins (input.Owned r ∷ is) = nones (origins ++ None ∷ []) is ∙ append_assoc origins (None ∷ []) (map (λ (i : Input). let o : Option Digest = None in o) (filter is_object is))
nones origins (input.Immutable r ∷ is) = nones (origins ++ None ∷ []) is ∙ append_assoc origins (None ∷ []) (map (λ (i : Input). let o : Option Digest = None in o) (filter is_object is))
nones origins (input.Shared id initial mutable ∷ is) = nones (origins ++ None ∷ []) is ∙ append_assoc origins (None ∷ []) (map (λ (i : Input). let o : Option Digest = None in o) (filter is_object is))

pub all_none : (t : Transaction) → fold with_none (None ∷ []) t.inputs ≡ no_origins t
all_none t = nones (None ∷ []) t.inputs

pub words_named : (k : Known) (said : List Said) (honest : List Bool) (t : Made) (words : List (Option Name)) (origins : List (Option Digest))
    → 0 < length words → origins ≡ map (origin_word (world_with k)) words → origins ≡ origins_by k said honest t words
words_named k said honest t [] origins some is = absurd (omega arith)
words_named k said honest t (word ∷ words) origins some is = is

pub voted_first : (k : Known) (said : List Said) (honest : List Bool) (t : Made) (words : List (Option Name)) (origins vote : List (Option Digest))
    → length words ≤ 0 → Some vote ≡ first_vote said t.signed.tx.epoch t.digest honest → origins ≡ vote → origins ≡ origins_by k said honest t words
voted_first k said honest t [] origins vote none is o = o ∙ ap (origins_or (no_origins t.signed.tx)) is
voted_first k said honest t (word ∷ words) origins vote none is o = absurd (omega arith)

pub none_voted : (k : Known) (said : List Said) (honest : List Bool) (t : Made) (words : List (Option Name)) (origins : List (Option Digest))
    → length words ≤ 0 → None ≡ first_vote said t.signed.tx.epoch t.digest honest → origins ≡ no_origins t.signed.tx → origins ≡ origins_by k said honest t words
none_voted k said honest t [] origins none is o = o ∙ ap (origins_or (no_origins t.signed.tx)) is
none_voted k said honest t (word ∷ words) origins none is o = absurd (omega arith)
