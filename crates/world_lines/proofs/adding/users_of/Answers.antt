use Rattle.std.proofs.Common.{◌∙◌, ap, sym, [], ◌∷◌, map}
use Rattle.std.proofs.lemmas.List.{drop_all}
use Rattle.world_spec.specs.Setting.{user_of}
use Rattle.world_spec.specs.Making.{user_word}
use Rattle.world_lines.specs.KnownRows.{user_as}
use Rattle.world_lines.specs.Gathered.{all_some}
use Rattle.world_lines.proofs.Gathered.{all_added}
use Rattle.world_lines.proofs.adding.users_of.Goals as goal

pub returns : goal.returns
returns c =
    sym (ap (all_some user_word (map user_as c.loop-word.users.items)) (drop_all c.loop-word.word-index c.args.words.now c.loop-word-test.false))
    ∙ c.loop-word.invariant
    ∙ all_added user_word (user_of c.args.sender.now ∷ []) c.args.words.now
