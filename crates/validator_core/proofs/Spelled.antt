-- The records of runs whose lists are short can be encoded.
use Rattle.std.proofs.Common.{◌≡◌, ◌<◌, List, [], ◌∷◌, ◌++◌, length, sym, ◌∙◌, append_assoc, append-nil}
use Rattle.wire_bcs.specs.Digests.{digest}
use Rattle.wire_bcs.specs.Items.{length_limit}
use Rattle.effects_core.specs.declared.effects.Effects.{Effects}
use Rattle.journal_core.specs.declared.records.RanItem.{RanItem}
use Rattle.journal_core.specs.declared.records.Record.TheVariants as record_as
use Rattle.journal_core.specs.Records.{journal_record, ran_item}
use Rattle.validator_core.specs.Steps.{item_of, items_after, items_of}

pub ran_short : (items : List RanItem) → length items < length_limit → journal_record.short (record_as.Ran2 items)
unfolding journal_record ran_item digest
ran_short items few = (few, λ k d l. (tt, tt))

items_behind : (items : List RanItem) (effects : List Effects) → items_after items effects ≡ items ++ items_of effects
items_behind items [] = sym (append-nil items)
items_behind items (e ∷ es) = items_behind (items ++ item_of e ∷ []) es ∙ append_assoc items (item_of e ∷ []) (items_of es)

pub items_all : (effects : List Effects) → items_after [] effects ≡ items_of effects
items_all effects = items_behind [] effects
