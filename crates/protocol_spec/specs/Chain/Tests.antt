-- Tests of equality, in the form in which the derived `==` of each type answers.
use Rattle.std.specs.Prelude.{ℕ, Bool, true, false, ◌&&◌, ◌==◌, List, [], ◌∷◌, Option}
use Rattle.std.specs.Option.{option_eq}
use Rattle.std.specs.List.{list_any}
use Rattle.digest_core.specs.declared.Digest.{Digest}
use Rattle.chain_types.specs.Equal.{digest_eq, id_eq, key_eq}
use Rattle.chain_types.specs.declared.objects.ObjectId.{ObjectId}
use Rattle.chain_types.specs.declared.objects.Address.{Address}
use Rattle.chain_types.specs.declared.objects.ObjectKey.{ObjectKey}
use Rattle.chain_types.specs.declared.objects.Kind.{Kind}
use Rattle.chain_types.specs.declared.objects.Kind.TheVariants as kind
use Rattle.chain_types.specs.declared.objects.Producer.{Producer}
use Rattle.chain_types.specs.declared.objects.Producer.TheVariants as producer

abbrev pub address_eq : Address → Address → Bool
address_eq a b = digest_eq a.0 b.0

abbrev pub producer_eq : Producer → Producer → Bool
producer_eq producer.Opening producer.Opening = true
producer_eq (producer.Tx a) (producer.Tx b) = digest_eq a b
producer_eq producer.Opening (producer.Tx b) = false
producer_eq (producer.Tx a) producer.Opening = false

-- the numbers of the kinds, as they are encoded
abbrev pub kind_number : Kind → ℕ
kind_number kind.Coin = 0
kind_number kind.Cap = 1
kind_number kind.Counter = 2
kind_number kind.Vault = 3
kind_number kind.VaultKey = 4
kind_number kind.Limit = 5

abbrev pub kind_eq : Kind → Kind → Bool
kind_eq a b = kind_number a == kind_number b

abbrev pub origin_eq : Option Digest → Option Digest → Bool
origin_eq = option_eq digest_eq

-- lists of the same length with equal elements
abbrev pub list_eq : {A : Type 0} → (A → A → Bool) → List A → List A → Bool
list_eq same [] [] = true
list_eq same (x ∷ xs) (y ∷ ys) = same x y && list_eq same xs ys
list_eq same [] (y ∷ ys) = false
list_eq same (x ∷ xs) [] = false

abbrev pub origins_eq : List (Option Digest) → List (Option Digest) → Bool
origins_eq = list_eq origin_eq

-- whether the digest, the id or the key is among these
abbrev pub has_digest : List Digest → Digest → Bool
has_digest ds d = list_any (digest_eq d) ds

abbrev pub has_id : List ObjectId → ObjectId → Bool
has_id ids id = list_any (id_eq id) ids

abbrev pub has_key : List ObjectKey → ObjectKey → Bool
has_key keys key = list_any (key_eq key) keys
