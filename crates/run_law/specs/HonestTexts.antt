-- What holds of the run of every schedule that a text says, with the program's own seals. Source: this profile.
use Rattle.std.specs.Prelude.{◌≡◌, ℕ, false, List, Ok}
use Rattle.chain_types.specs.Transactions as transactions
use Rattle.schedule_text.specs.declared.words.Event.{Event}
use Rattle.schedule_text.specs.declared.words.Schedule.{Schedule}
use Rattle.schedule_text.specs.Schedule.{schedule_of}
use Rattle.protocol_spec.specs.Chain.Words.{Each}
use Rattle.world_spec.specs.Setting.{Setting, setting_of}
use Rattle.world_spec.specs.Keyed.{keyed}
use Rattle.world_spec.specs.World.{Made, new_world}
use Rattle.world_spec.specs.Run.{world_after}
use Rattle.world_spec.specs.Assumptions.{NoForgery}
use Rattle.safety_law.specs.Owners.{is_raw_hold, AreSpellable}

-- the setting of a schedule whose seals are keyed digests under this secret
abbrev pub keyed_setting : List ℕ → Schedule → Setting
keyed_setting secret t = setting_of (keyed secret) t.setup

-- each signed transaction that its lines make is a value of its Rust type, with no list too long to be encoded
abbrev pub ReadTransactionsAreSpellable : Type 0
ReadTransactionsAreSpellable = (text : List ℕ) (t : Schedule) → schedule_of text ≡ Ok t → (secret : List ℕ)
    → Each (λ (m : Made). transactions.signed.fits m.signed) (world_after (keyed_setting secret t) t.events).txs

-- the certificates that its lines form and the entries that they order are such values too, short enough to be encoded
abbrev pub ReadRunsAreSpellable : Type 0
ReadRunsAreSpellable = (text : List ℕ) (t : Schedule) → schedule_of text ≡ Ok t → (secret : List ℕ)
    → AreSpellable (keyed_setting secret t) t.events

-- without `raw .. hold` lines no statement of its run is forged
abbrev pub NothingReadIsForged : Type 0
NothingReadIsForged = (text : List ℕ) (t : Schedule) → schedule_of text ≡ Ok t → (secret : List ℕ)
    → Each (λ (e : Event). is_raw_hold e ≡ false) t.events
    → NoForgery (keyed_setting secret t) t.events (new_world (keyed_setting secret t))
