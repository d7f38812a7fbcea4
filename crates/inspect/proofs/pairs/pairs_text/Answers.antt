use Rattle.std.proofs.Common.{◌∙◌, ◌++◌, ℕ, ap, fold, List, [], subst, sym}
use Rattle.chain_messages.specs.declared.messages.Certificate.{Certificate}
use Rattle.protocol_spec.specs.Chain.Words.{Each}
use Rattle.world_spec.specs.Known.{world_with}
use Rattle.world_spec.specs.Names.{tx_name}
use Rattle.inspect.specs.Blame.{pair_text, pairs_text}
use Rattle.inspect.specs.Found.{IsSound}
use Rattle.inspect.specs.Uses.{is_suspect, with_cert}
use Rattle.inspect.proofs.Rivals.{quiet_pairs, sound_kept}
use Rattle.inspect.proofs.Shared.{suspects_say_all}
use Rattle.inspect.proofs.pairs.pairs_text.Goals as goal

pub add_pairs-requires : goal.add_pairs-requires
add_pairs-requires c =
    subst (λ (certs : List Certificate). Each (IsSound c.args.committee.now) certs) (sym (c.as_slice.ensures.value ∙ c.in_ok-suspects.ensures))
    (sound_kept c.args.committee.now (is_suspect (fold with_cert [] c.args.certs.now)) c.args.certs.now c.requires)

pub returns : goal.returns
returns c =
    let names = tx_name (world_with c.args.names.now) in
    c.in_ok-add_pairs.ensures ∙ ap (λ (text : List ℕ). text ++ pairs_text names c.args.committee.now c.as_slice.result.now) c.new-text.ensures
    ∙ ap (pairs_text names c.args.committee.now) (c.as_slice.ensures.value ∙ c.in_ok-suspects.ensures)
    ∙ suspects_say_all (pair_text names c.args.committee.now) (quiet_pairs names c.args.committee.now) c.args.certs.now
