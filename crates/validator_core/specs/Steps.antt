-- The state after one more record of each kind. Source: this profile.
use Rattle.std.specs.Prelude.{◌+◌, true, List, [], ◌∷◌, ◌++◌, map, Option, Some, None}
use Rattle.digest_core.specs.declared.Digest.{Digest}
use Rattle.chain_types.specs.declared.transactions.Transaction.{Transaction}
use Rattle.chain_messages.specs.declared.messages.Certificate.{Certificate}
use Rattle.effects_core.specs.declared.effects.Effects.{Effects}
use Rattle.effects_core.specs.Effects.{digest_of_effects}
use Rattle.journal_core.specs.declared.records.RanItem.{RanItem}
use Rattle.journal_core.specs.declared.records.Record.{Record}
use Rattle.protocol_spec.specs.Member.Sequence.{held_as}
use Rattle.protocol_spec.specs.Member.Member.{Member, cast_of, turned}

-- after the record of a fresh vote
abbrev pub voted : Member → Transaction → List (Option Digest) → Member
voted m t origins = record m { votes = m.votes ++ cast_of t origins ∷ []; records = m.records + 1 }

-- after the record of a certificate
abbrev pub holding : Member → Certificate → Member
holding m c = record m { held = m.held ++ held_as c ∷ []; records = m.records + 1 }

-- after the record of a close
abbrev pub closing : Member → Member
closing m = record m { closed = true; records = m.records + 1 }

-- after the record of a turn
abbrev pub turning : Member → Member
turning m = record (turned m) { records = m.records + 1 }

-- ---- runs

-- with the record of a run counted: what the run executed was added before
abbrev pub counted : Member → Member
counted m = record m { records = m.records + 1 }

-- `counted`, if the run left a record
abbrev pub counted_where : Option Record → Member → Member
counted_where None m = m
counted_where (Some x) m = counted m

-- the item of an executed transaction in the record of its run
abbrev pub item_of : Effects → RanItem
item_of e = record { tx = e.tx; effects = digest_of_effects e }

abbrev pub items_of : List Effects → List RanItem
items_of effects = map item_of effects

-- loop: the items so far, and after them those of these effects
abbrev pub items_after : List RanItem → List Effects → List RanItem
items_after items [] = items
items_after items (e ∷ es) = items_after (items ++ item_of e ∷ []) es
