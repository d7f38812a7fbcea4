-- What is known under names in a run: the set-up's things, and the users, transactions and drawn ids so far.
-- The definitions of names look at nothing else of a setting and its world.
use Rattle.std.specs.Prelude.{ℕ, false, List, [], ◌∷◌, ◌++◌, length, filter_map, None}
use Rattle.protocol_spec.specs.Member.Checkpoints.{zero_digest}
use Rattle.schedule_text.specs.declared.words.RefWord.{RefWord}
use Rattle.schedule_text.specs.declared.words.InputWord.{InputWord}
use Rattle.schedule_text.specs.declared.words.Setup.{Setup}
use Rattle.world_spec.specs.Setting.{Name, Thing, User, Setting, user_of, thing_id, things_from, owners_of}
use Rattle.world_spec.specs.World.{Made, Drawn, World, WorldOf}
use Rattle.world_spec.specs.Names.{drawn_by}
use Rattle.world_spec.specs.Making.{TxLine, user_word, drawn_word, drawn_input, drawn_list}

pub record Known : Type 0 where
  pub things : List Thing
  pub users : List User
  pub txs : List Made
  pub drawn : List Drawn

-- what is known in a world
abbrev pub names_of : {S : Type 0} → Setting → WorldOf S → Known
names_of s w = record { things = s.things; users = w.users; txs = w.txs; drawn = w.drawn }

-- a setting and a world (`world_with`) in which this is known, and that have nothing else
abbrev pub setting_with : Known → Setting
setting_with k = record {
  rules = record { stakes = []; writers = None; accepts = λ _ _ _. false };
  honest = [];
  opening = [];
  things = k.things;
  users = [];
  seal = λ _ _. zero_digest;
}

-- that setting with these stakes: lines on Ends give their weight of the total stake
abbrev pub setting_staked : List ℕ → Known → Setting
setting_staked stakes k = record (setting_with k) { rules = record { stakes = stakes; writers = None; accepts = λ _ _ _. false } }

abbrev pub world_with : Known → World
world_with k = record { sequences = []; epoch = 0; seats = []; said = []; txs = k.txs; certs = []; users = k.users; drawn = k.drawn }

-- what the set-up lines name
abbrev pub known_by : List Setup → Known
known_by lines = record { things = things_from 0 lines; users = owners_of lines; txs = []; drawn = [] }

-- one more thing of the set-up, and one more user
abbrev pub with_thing : Known → Name → Known
with_thing k name = record k { things = k.things ++ record { name = name; id = thing_id (length k.things) } ∷ [] }

abbrev pub with_user : Known → Name → Known
with_user k name = record k { users = k.users ++ user_of name ∷ [] }

-- the created objects that a line's words name, by transaction and creation number
abbrev pub drawn_words : Known → RefWord → List InputWord → List Drawn
drawn_words k gas words = drawn_list (drawn_word (world_with k) gas.object) ++ filter_map (drawn_input (world_with k)) words

abbrev pub users_in : Name → List InputWord → List User
users_in sender words = user_of sender ∷ filter_map user_word words

-- one more transaction, and the names of its line
abbrev pub with_line : Known → TxLine → Made → Known
with_line k l t = record k {
  txs = k.txs ++ t ∷ [];
  users = k.users ++ users_in l.sender l.inputs;
  drawn = k.drawn ++ (drawn_list (drawn_word (world_with k) l.gas.object) ++ (filter_map (drawn_input (world_with k)) l.inputs ++ drawn_by t.digest t.signed.tx));
}
