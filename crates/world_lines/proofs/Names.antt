-- Names, by the rows that were found.
use Rattle.std.proofs.Common.{◌≡◌, ◌∙◌, ap, sym, refl, ℕ, List, [], ◌∷◌, ◌++◌, length, Option, Some, None, option_map, map}
use Rattle.std.specs.Prelude.{position, find, bytes_eq, decimal, slice_get}
use Rattle.std.proofs.lemmas.List.{length-map}
use Rattle.std.proofs.lemmas.Option.{slice_get-map}
use Rattle.digest_core.specs.declared.Digest.{Digest}
use Rattle.chain_types.specs.declared.objects.Address.{Address}
use Rattle.chain_types.specs.declared.objects.Object.{Object}
use Rattle.chain_types.specs.declared.objects.ObjectId.{ObjectId}
use Rattle.chain_types.specs.Equal.{digest_eq, id_eq}
use Rattle.protocol_spec.proofs.Equality.{bytes_turned, digest_turned}
use Rattle.protocol_spec.specs.Chain.Words.{first_of, first_some}
use Rattle.world_spec.specs.Setting.{Name, Thing, User}
use Rattle.world_spec.specs.World.{Made, Drawn}
use Rattle.world_spec.specs.Names.{address_name, drawn_name, drawn_rank, made_name, made_named, name_or, object_name, rank, rank_or, tx_name}
use Rattle.world_lines.specs.declared.rows.ThingRow.{ThingRow}
use Rattle.world_lines.specs.declared.rows.UserRow.{UserRow}
use Rattle.world_lines.specs.declared.rows.MadeTx.{MadeTx}
use Rattle.world_lines.specs.declared.rows.DrawnRow.{DrawnRow}
use Rattle.world_spec.specs.Known.{Known, setting_with, world_with}
use Rattle.world_lines.specs.KnownRows.{drawn_of, known_as, made_as, thing_as, user_as}
use Rattle.world_lines.proofs.Lookups.{find_map, find_same, first_where, position_map}

module _ (things : List ThingRow) (users : List UserRow) (txs : List MadeTx) (drawn : List DrawnRow) (k : Known) (view : known_as things users txs drawn ≡ k) where
  -- the transactions, users, things and drawn ids, as they are found
  txs_are : map made_as txs ≡ k.txs
  txs_are = ap (λ (j : Known). j.txs) view

  tx_found : (tx : Digest) → find (λ (t : Made). digest_eq t.digest tx) k.txs ≡ option_map made_as (find (λ (r : MadeTx). digest_eq tx r.digest) txs)
  tx_found tx =
      ap (find (λ (t : Made). digest_eq t.digest tx)) (sym txs_are) ∙ find_map made_as (λ (t : Made). digest_eq t.digest tx) txs
      ∙ ap (option_map made_as) (find_same (λ (r : MadeTx). digest_eq r.digest tx) (λ (r : MadeTx). digest_eq tx r.digest) (λ r. digest_turned r.digest tx) txs)

  pub tx_named : (tx : Digest) (o : Option MadeTx) → o ≡ find (λ (r : MadeTx). digest_eq tx r.digest) txs → name_or (option_map made_name (option_map made_as o)) ≡ tx_name (world_with k) tx
  tx_named tx o is = ap (λ x. name_or (option_map made_name (option_map made_as x))) is ∙ sym (ap (λ x. name_or (option_map made_name x)) (tx_found tx))

  pub made_with : (tx : Digest) (o : Option MadeTx) → o ≡ find (λ (r : MadeTx). digest_eq tx r.digest) txs → option_map made_as o ≡ find (λ (t : Made). digest_eq t.digest tx) k.txs
  made_with tx o is = ap (option_map made_as) is ∙ sym (tx_found tx)

  pub made_placed : (place : ℕ) (o : Option MadeTx) → o ≡ slice_get txs place → option_map made_as o ≡ slice_get k.txs place
  made_placed place o is = ap (option_map made_as) is ∙ sym (slice_get-map made_as txs place) ∙ ap (λ (ts : List Made). slice_get ts place) txs_are

  pub made_found : (name : Name) (o : Option MadeTx) → o ≡ find (λ (r : MadeTx). bytes_eq name r.name) txs → option_map made_as o ≡ made_named (world_with k) name
  made_found name o is =
      ap (option_map made_as) (is ∙ find_same (λ (r : MadeTx). bytes_eq name r.name) (λ (r : MadeTx). bytes_eq r.name name) (λ r. bytes_turned name r.name) txs)
      ∙ sym (find_map made_as (λ (t : Made). bytes_eq t.name name) txs)
      ∙ ap (find (λ (t : Made). bytes_eq t.name name)) txs_are

  things_are : map thing_as things ≡ k.things
  things_are = ap (λ (j : Known). j.things) view

  pub thing_found : (name : Name) (o : Option ThingRow) → o ≡ find (λ (r : ThingRow). bytes_eq name r.name) things → option_map thing_as o ≡ find (λ (t : Thing). bytes_eq t.name name) k.things
  thing_found name o is =
      ap (option_map thing_as) (is ∙ find_same (λ (r : ThingRow). bytes_eq name r.name) (λ (r : ThingRow). bytes_eq r.name name) (λ r. bytes_turned name r.name) things)
      ∙ sym (find_map thing_as (λ (t : Thing). bytes_eq t.name name) things)
      ∙ ap (find (λ (t : Thing). bytes_eq t.name name)) things_are

  thing_with : (id : ObjectId) (o : Option ThingRow) → o ≡ find (λ (r : ThingRow). digest_eq id.0 r.id.0) things → option_map thing_as o ≡ find (λ (t : Thing). id_eq t.id id) k.things
  thing_with id o is =
      ap (option_map thing_as) (is ∙ find_same (λ (r : ThingRow). digest_eq id.0 r.id.0) (λ (r : ThingRow). digest_eq r.id.0 id.0) (λ r. digest_turned id.0 r.id.0) things)
      ∙ sym (find_map thing_as (λ (t : Thing). id_eq t.id id) things)
      ∙ ap (find (λ (t : Thing). id_eq t.id id)) things_are

  drawn_are : map drawn_of drawn ≡ k.drawn
  drawn_are = ap (λ (j : Known). j.drawn) view

  drawn_with : (id : ObjectId) (o : Option DrawnRow) → o ≡ find (λ (r : DrawnRow). digest_eq id.0 r.id.0) drawn → option_map drawn_of o ≡ find (λ (d : Drawn). id_eq d.id id) k.drawn
  drawn_with id o is =
      ap (option_map drawn_of) (is ∙ find_same (λ (r : DrawnRow). digest_eq id.0 r.id.0) (λ (r : DrawnRow). digest_eq r.id.0 id.0) (λ r. digest_turned id.0 r.id.0) drawn)
      ∙ sym (find_map drawn_of (λ (d : Drawn). id_eq d.id id) drawn)
      ∙ ap (find (λ (d : Drawn). id_eq d.id id)) drawn_are

  pub user_named : (a : Address) (o : Option UserRow) → o ≡ find (λ (r : UserRow). digest_eq a.0 r.address) users
      → name_or (option_map (λ (u : User). u.name) (option_map user_as o)) ≡ address_name (world_with k) a
  user_named a o is =
      ap (λ x. name_or (option_map (λ (u : User). u.name) x))
      (ap (option_map user_as) (is ∙ find_same (λ (r : UserRow). digest_eq a.0 r.address) (λ (r : UserRow). digest_eq r.address a.0) (λ r. digest_turned a.0 r.address) users)
      ∙ sym (find_map user_as (λ (u : User). digest_eq u.address a.0) users)
      ∙ ap (find (λ (u : User). digest_eq u.address a.0)) (ap (λ (j : Known). j.users) view))
      ∙ sym (ap name_or (first_where (λ (u : User). digest_eq u.address a.0) (λ (u : User). u.name) k.users))

  -- an object's name: a thing's, else a drawn one's
  abbrev pub word_of : Option ThingRow → Option DrawnRow → Name
  word_of (Some t) d = t.name
  word_of None (Some d) = tx_name (world_with k) d.tx ++ 46 ∷ decimal d.number
  word_of None None = 63 ∷ []

  pub object_named : (id : ObjectId) (t : Option ThingRow) (d : Option DrawnRow) → t ≡ find (λ (r : ThingRow). digest_eq id.0 r.id.0) things → d ≡ find (λ (r : DrawnRow). digest_eq id.0 r.id.0) drawn
      → word_of t d ≡ object_name (setting_with k) (world_with k) id
  object_named id t d is_t is_d =
      by t d
      ∙ ap (λ x. name_or (first_some (option_map (λ (y : Thing). y.name) x ∷ option_map said (option_map drawn_of d) ∷ []))) (thing_with id t is_t)
      ∙ ap (λ x. name_or (first_some (option_map (λ (y : Thing). y.name) (find (λ (y : Thing). id_eq y.id id) k.things) ∷ option_map said x ∷ []))) (drawn_with id d is_d)
      ∙ sym (ap (λ x. name_or (first_some (x ∷ first_of (drawn_name (world_with k) id) k.drawn ∷ []))) (first_where (λ (y : Thing). id_eq y.id id) (λ (y : Thing). y.name) k.things)
      ∙ ap (λ x. name_or (first_some (option_map (λ (y : Thing). y.name) (find (λ (y : Thing). id_eq y.id id) k.things) ∷ x ∷ []))) (first_where (λ (y : Drawn). id_eq y.id id) said k.drawn))
    where
      said : Drawn → Name
      said y = tx_name (world_with k) y.tx ++ 46 ∷ decimal y.number

      by : (a : Option ThingRow) (b : Option DrawnRow) → word_of a b ≡ name_or (first_some (option_map (λ (y : Thing). y.name) (option_map thing_as a) ∷ option_map said (option_map drawn_of b) ∷ []))
      by (Some a) b = refl
      by None (Some b) = refl
      by None None = refl

  -- ranks
  pub line_found : (tx : Digest) → position (λ (r : MadeTx). digest_eq tx r.digest) txs ≡ position (λ (t : Made). digest_eq t.digest tx) k.txs
  line_found tx =
      sym (position_map made_as (λ (t : Made). digest_eq t.digest tx) (λ (r : MadeTx). digest_eq tx r.digest) (λ r. digest_turned r.digest tx) txs)
      ∙ ap (position (λ (t : Made). digest_eq t.digest tx)) txs_are

  pub count_txs : length txs ≡ length k.txs
  count_txs = sym (length-map txs made_as) ∙ ap length txs_are

  thing_place : (id : ObjectId) → position (λ (r : ThingRow). digest_eq id.0 r.id.0) things ≡ position (λ (t : Thing). id_eq t.id id) k.things
  thing_place id =
      sym (position_map thing_as (λ (t : Thing). id_eq t.id id) (λ (r : ThingRow). digest_eq id.0 r.id.0) (λ r. digest_turned r.id.0 id.0) things)
      ∙ ap (position (λ (t : Thing). id_eq t.id id)) things_are

  pub thing_rank : (o : Object) (n : ℕ) → Some n ≡ position (λ (r : ThingRow). digest_eq o.id.0 r.id.0) things → ((0, n), 0) ≡ rank (setting_with k) (world_with k) o
  thing_rank o n is = ap (rank_or (world_with k) o.id) (is ∙ thing_place o.id)

  pub other_rank : (o : Object) (d : Option DrawnRow) → None ≡ position (λ (r : ThingRow). digest_eq o.id.0 r.id.0) things → d ≡ find (λ (r : DrawnRow). digest_eq o.id.0 r.id.0) drawn
      → ((1, (drawn_rank (world_with k) (option_map drawn_of d)).0), (drawn_rank (world_with k) (option_map drawn_of d)).1) ≡ rank (setting_with k) (world_with k) o
  other_rank o d is is_d =
      ap (λ x. ((1, (drawn_rank (world_with k) x).0), (drawn_rank (world_with k) x).1)) (drawn_with o.id d is_d)
      ∙ ap (rank_or (world_with k) o.id) (is ∙ thing_place o.id)
