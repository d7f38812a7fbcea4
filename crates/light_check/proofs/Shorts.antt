-- What can be encoded, part by part.
use Rattle.std.proofs.Common.{arith, ◌≤◌, ℕ, List, [], ◌∷◌, length}
use Rattle.std.specs.Prelude.{All}
use Rattle.std.proofs.lemmas.List.Elements.{All-from_recursion, recursion_from_All}
use Rattle.checkpoint_core.specs.Checkpoints.{checkpoint}
use Rattle.digest_core.specs.declared.Digest.{Digest}
use Rattle.wire_bcs.specs.Digests.{digest}
use Rattle.chain_messages.specs.declared.messages.Statement.TheVariants as statement
use Rattle.chain_messages.specs.Messages as messages
use Rattle.protocol_spec.specs.Chain.Words.{Each}
use Rattle.light_check.specs.declared.chain.Link.{Link}
use Rattle.light_check.specs.declared.chain.Chain.{Chain}
use Rattle.light_check.specs.Chains.{AllShort, chain, link}

pub each_of_all : {A : Type 0} (P : A → Type 0) (xs : List A) → All P xs → Each P xs
each_of_all P [] all = tt
each_of_all P (x ∷ xs) all = let r = recursion_from_All P (x ∷ xs) all in (r.0, each_of_all P xs (All-from_recursion P xs r.1))

pub link_short : (l : Link) → link.short l → checkpoint.short l.checkpoint
unfolding link
link_short l h = h.0

pub links_short : (c : Chain) → chain.short c → AllShort c.links
unfolding chain
links_short c h = each_of_all link.short c.links h.1

pub links_few : (c : Chain) → chain.short c → length c.links ≤ 2147483647
unfolding chain
links_few c h = let few = h.0 in omega (arith, few)

pub stated_short : (epoch number_of : ℕ) (d : Digest) → messages.statement.short (statement.Checkpoint epoch number_of d)
unfolding messages.statement digest
stated_short epoch number_of d = (tt, (tt, tt))
