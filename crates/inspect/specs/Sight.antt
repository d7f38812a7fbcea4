-- What the questions look at. Source: this profile.
use Rattle.std.specs.Prelude.{ℕ, Bool, List, [], length, map, Result, Ok, Err}
use Rattle.chain_messages.specs.declared.messages.Certificate.{Certificate}
use Rattle.schedule_text.specs.declared.words.Event.{Event}
use Rattle.schedule_text.specs.declared.words.Schedule.{Schedule}
use Rattle.schedule_text.specs.Schedule.{Refused, lines_of, schedule_of}
use Rattle.protocol_spec.specs.Chain.Certificates.{Rules}
use Rattle.world_spec.specs.Setting.{Setting}
use Rattle.world_spec.specs.World.{World, seat_honest}
use Rattle.world_spec.specs.Names.{cert_in, tx_name}
use Rattle.world_spec.specs.Known.{Known, names_of, world_with}
use Rattle.world_spec.specs.Scene.{Scene, rules_in}
use Rattle.world_core.specs.Crews.{honest_flags}
use Rattle.committee_core.specs.Headline.{program_trust}
use Rattle.inspect.specs.Blame.{Names}
use Rattle.inspect.specs.Standing.{States, states_in, states_of}

-- the members that are honest and up, whether each member is honest, the rules of the committee, what is known under names, how
-- transactions are called, the certificates that lines formed, the events that ran, and how many lines the text has
pub record Sight : Type 0 where
  pub states : States
  pub crew : List Bool
  pub rules : Rules
  pub known : Known
  pub names : Names
  pub formed : List Certificate
  pub events : List Event
  pub lines : ℕ

-- what the questions see of the definition's world after these events, for a text of this many lines
abbrev pub sight_of : Setting → World → List Event → ℕ → Sight
sight_of s w events lines = record { states = states_of s w; crew = map seat_honest w.seats; rules = s.rules; known = names_of s w; names = tx_name w; formed = map cert_in w.certs; events = events; lines = lines }

-- what the questions see of the code's scene after these events, under the seals of the program
abbrev pub sight_in : Scene → List Event → ℕ → Sight
sight_in sc events lines = record { states = states_in sc.posts; crew = honest_flags sc.posts; rules = rules_in program_trust.accepts sc; known = sc.known; names = tx_name (world_with sc.known); formed = map cert_in sc.certs; events = events; lines = lines }

-- the events of a text, none if it is not a schedule
abbrev pub events_in : Result Schedule Refused → List Event
events_in (Ok s) = s.events
events_in (Err r) = []

-- what the questions see of the code's scene after the run of this text
abbrev pub sight_behind : Scene → List ℕ → Sight
sight_behind sc text = sight_in sc (events_in (schedule_of text)) (length (lines_of text))
