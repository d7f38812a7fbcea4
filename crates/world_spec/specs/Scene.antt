-- What a world is without the members' records: what is known under names, what was ordered, stated and formed, and
-- the members as they stand. Source: this profile.
use Rattle.std.specs.Prelude.{ℕ, Bool, List, [], ◌∷◌}
use Rattle.digest_core.specs.declared.Digest.{Digest}
use Rattle.quorum_core.specs.declared.signer.Signer.{Signer}
use Rattle.chain_types.specs.declared.objects.Object.{Object}
use Rattle.chain_messages.specs.declared.messages.Entry.{Entry}
use Rattle.schedule_text.specs.declared.words.Setup.{Setup}
use Rattle.protocol_spec.specs.Chain.Certificates.{Rules}
use Rattle.world_spec.specs.Setting.{Trust, Setting}
use Rattle.world_spec.specs.World.{WorldOf, Seating, Said, Formed}
use Rattle.world_spec.specs.Known.{Known, known_by}
use Rattle.world_spec.specs.Terms.{Terms, rules_for, terms_of}
use Rattle.world_spec.specs.Posts.{Post, by_posts, new_posts}

pub record Scene : Type 0 where
  -- the terms of the committee, and the objects with which epoch 0 opens
  pub terms : Terms
  pub opening : List Object
  pub known : Known
  -- the sequences of the epochs up to the open one, which is the last
  pub sequences : List (List Entry)
  pub epoch : ℕ
  pub said : List Said
  pub certs : List Formed
  pub posts : List Post

-- the scene before the first line
abbrev pub new_scene : Setting → List Setup → Scene
new_scene s setup = record {
  terms = terms_of s.rules;
  opening = s.opening;
  known = known_by setup;
  sequences = [] ∷ [];
  epoch = 0;
  said = [];
  certs = [];
  posts = new_posts (terms_of s.rules) s.opening 0 s.honest;
}

-- the rules of the committee, by whose seals are accepted
abbrev pub rules_in : (Signer → List ℕ → Digest → Bool) → Scene → Rules
rules_in accepts sc = rules_for sc.terms accepts

-- the setting of the scene; the definitions of a line look neither at the flags of members nor at the users of a setting
abbrev pub bare_setting : Trust → Scene → Setting
bare_setting trust sc = record {
  rules = rules_in trust.accepts sc;
  honest = [];
  opening = sc.opening;
  things = sc.known.things;
  users = [];
  seal = trust.seal;
}

-- the scene as a world whose seats are posts: the definitions of a line take it as they take a world of records
abbrev pub post_world : Scene → WorldOf Post
post_world sc = record {
  sequences = sc.sequences;
  epoch = sc.epoch;
  seats = sc.posts;
  said = sc.said;
  txs = sc.known.txs;
  certs = sc.certs;
  users = sc.known.users;
  drawn = sc.known.drawn;
}

-- the scene with what such a world has
abbrev pub scene_with : Scene → WorldOf Post → Scene
scene_with sc w = record sc {
  known = record sc.known { txs = w.txs; users = w.users; drawn = w.drawn };
  sequences = w.sequences;
  epoch = w.epoch;
  said = w.said;
  certs = w.certs;
  posts = w.seats;
}

-- how members stand in the scene, and the seals that they make
abbrev pub post_seating : Trust → Scene → Seating Post
post_seating trust sc = by_posts trust.seal (rules_in trust.accepts sc)
