-- Who sealed two certificates of which an honest member sealed one at most, from bytes. Source: Sui Lutris (see
-- `blamed`); the refusals, if nobody is to blame, are this profile's own.
use Rattle.std.specs.Prelude.{ℕ, List, Option, Some, None, Result, Ok, Err}
use Rattle.chain_messages.specs.declared.messages.Certificate.{Certificate}
use Rattle.chain_messages.specs.Messages.{certificate}
use Rattle.protocol_spec.specs.Chain.Words.{and_then}
use Rattle.light_check.specs.declared.rivals.DoubleVote.{DoubleVote}
use Rattle.light_check.specs.Blamed.{blamed}
use Rattle.light_client.specs.Input.{input}
use Rattle.light_client.specs.declared.refusal.Refusal.{Refusal}
use Rattle.light_client.specs.declared.refusal.Refusal.TheVariants as refusal

abbrev pub rivals : Option DoubleVote → Result DoubleVote Refusal
rivals None = Err refusal.NoRivals
rivals (Some both) = Ok both

abbrev pub blamed_answer : Certificate → Certificate → Result DoubleVote Refusal
blamed_answer c d = rivals (blamed c d)

-- the answer for the bytes of two certificates: the version that both consume and the members that sealed both, or why
-- there is none; the first bytes are read first
unfoldable pub blame_answer : List ℕ → List ℕ → Result DoubleVote Refusal
blame_answer one other = and_then (input certificate one) (λ (c : Certificate). and_then (input certificate other) (λ (d : Certificate). blamed_answer c d))
