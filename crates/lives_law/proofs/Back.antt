-- What is due to a call can be encoded, so its record is read back.
use Rattle.std.proofs.Common.{refl, subst, ap}
use Rattle.std.specs.Prelude.{◌≡◌, List, [], ◌∷◌, ◌++◌, Option, Some, None, Result}
use Rattle.wire_bcs.specs.Place.{Stop}
use Rattle.wire_bcs.specs.Whole.{whole-only}
use Rattle.chain_types.specs.declared.objects.Object.{Object}
use Rattle.journal_core.specs.declared.records.Record.{Record}
use Rattle.journal_core.specs.Records as journals
use Rattle.protocol_spec.specs.Chain.Words.{Each}
use Rattle.protocol_spec.specs.Chain.Certificates.{Rules, read_as}
use Rattle.protocol_spec.specs.Member.Member.{Member, state}
use Rattle.protocol_spec.specs.Member.Calls.{Call, votes, holds, sees, runs, closes, ends, turns, acks, due}
use Rattle.safety_law.proofs.Apart.{state-push}
use Rattle.run_law.proofs.Members.{IsFitMember, fit-step}
use Rattle.lives_law.specs.Files.{IsReadBack, IsReadable}
use Rattle.protocol_spec.specs.Member.Calls.{after_due}
use Rattle.world_spec.specs.Posts.{list_of}
use Rattle.run_law.proofs.SceneStarts.{Given, due-good, hold-bytes, vote-bytes}
use Rattle.lives_law.specs.Files.{dues}

given-of : (call : Call) → IsReadable call → Given call
given-of (votes bytes) are = vote-bytes bytes are
given-of (holds bytes) are = hold-bytes bytes are
given-of (sees number bytes) few = few
given-of runs given = tt
given-of closes given = tt
given-of ends given = tt
given-of turns given = tt
given-of (acks tx) given = tt

read-good : (x : Record) → journals.journal_record.fits x → IsReadBack x
read-good x fits = ap (λ (b : Result Record Stop). read_as b) (whole-only journals.journal_record (journals.journal_record.spell x) x fits refl)

module _ (r : Rules) (opening : List Object) where
  pub dues-back : (calls : List Call) (before : List Record) → IsFitMember (state r opening before) → Each IsReadable calls → Each IsReadBack (dues r (state r opening before) calls)
  dues-back [] before fit each = tt
  dues-back (call ∷ calls) before fit each = go (due r (state r opening before) call) refl (λ next fits. dues-back calls next fits each.1)
    where
      go : (x : Option Record) → due r (state r opening before) call ≡ x → ((next : List Record) → IsFitMember (state r opening next) → Each IsReadBack (dues r (state r opening next) calls))
          → Each IsReadBack (list_of x ++ dues r (after_due r (state r opening before) x) calls)
      go None e rest = rest before fit
      go (Some x) e rest =
          let next = rest (before ++ x ∷ []) (fit-step r opening before call x tt e fit) in
          (read-good x (due-good r opening before fit x call (given-of call each.0) e), subst (λ (n : Member). Each IsReadBack (dues r n calls)) (state-push r opening before x) next)
