-- Objects on the wire (BCS; the variant numbers are this profile's).
use Rattle.std.specs.Prelude.{ℕ, ◌⊎◌, refl}
use Rattle.std.proofs.Common.{inl, inr}
use Rattle.wire_bcs.specs.Codec.{Codec}
use Rattle.wire_bcs.specs.Items.{number, nothing}
use Rattle.wire_bcs.specs.Shapes.{pair, by}
use Rattle.wire_bcs.specs.Tags.{case, last, choice}
use Rattle.wire_bcs.specs.Digests.{digest}
use Rattle.chain_types.specs.declared.objects.ObjectId.{ObjectId}
use Rattle.chain_types.specs.declared.objects.Address.{Address}
use Rattle.chain_types.specs.declared.objects.ObjectRef.{ObjectRef}
use Rattle.chain_types.specs.declared.objects.Owner.{Owner}
use Rattle.chain_types.specs.declared.objects.Owner.TheVariants as owners
use Rattle.chain_types.specs.declared.objects.Kind.{Kind}
use Rattle.chain_types.specs.declared.objects.Kind.TheVariants as kinds
use Rattle.chain_types.specs.declared.objects.Content.{Content}
use Rattle.chain_types.specs.declared.objects.Content.TheVariants as contents
use Rattle.chain_types.specs.declared.objects.Object.{Object}

unfoldable pub object_id : Codec ObjectId
object_id = by (λ x. x.0) (λ d. record { 0 = d }) (λ _. refl) (λ _. refl) digest

unfoldable pub address : Codec Address
address = by (λ x. x.0) (λ d. record { 0 = d }) (λ _. refl) (λ _. refl) digest

-- id, version, digest
unfoldable pub object_ref : Codec ObjectRef
object_ref = by (λ r. (r.id, (r.version, r.digest))) (λ p. record { id = p.0; version = p.1.0; digest = p.1.1 }) (λ _. refl) (λ _. refl)
    (pair object_id (pair (number 8) digest))

-- ---- Address 0 (address); Shared 1 (initial version); Immutable 2

abbrev pub OwnerParts : Type 0
OwnerParts = Address ⊎ (ℕ ⊎ Unit {0})

abbrev pub owner_to : Owner → OwnerParts
owner_to (owners.Address a) = inl a
owner_to (owners.Shared initial) = inr (inl initial)
owner_to owners.Immutable = inr (inr tt)

abbrev pub owner_from : OwnerParts → Owner
owner_from (inl a) = owners.Address a
owner_from (inr (inl initial)) = owners.Shared initial
owner_from (inr (inr u)) = owners.Immutable

unfoldable pub owner : Codec Owner
owner = by owner_to owner_from
    (elim [ owners.Address a ↦ refl | owners.Shared initial ↦ refl | owners.Immutable ↦ refl ])
    (elim [ inl a ↦ refl | inr (inl initial) ↦ refl | inr (inr u) ↦ refl ])
    (choice
    (case 0 address  -- Address
    (case 1 (number 8)  -- Shared
    (last 2 nothing)  -- Immutable
    refl) refl) refl)

-- ---- Coin 0, Cap 1, Counter 2, Vault 3, VaultKey 4, Limit 5

abbrev pub KindParts : Type 0
KindParts = Unit {0} ⊎ (Unit {0} ⊎ (Unit {0} ⊎ (Unit {0} ⊎ (Unit {0} ⊎ Unit {0}))))

abbrev pub kind_to : Kind → KindParts
kind_to kinds.Coin = inl tt
kind_to kinds.Cap = inr (inl tt)
kind_to kinds.Counter = inr (inr (inl tt))
kind_to kinds.Vault = inr (inr (inr (inl tt)))
kind_to kinds.VaultKey = inr (inr (inr (inr (inl tt))))
kind_to kinds.Limit = inr (inr (inr (inr (inr tt))))

abbrev pub kind_from : KindParts → Kind
kind_from (inl u) = kinds.Coin
kind_from (inr (inl u)) = kinds.Cap
kind_from (inr (inr (inl u))) = kinds.Counter
kind_from (inr (inr (inr (inl u)))) = kinds.Vault
kind_from (inr (inr (inr (inr (inl u))))) = kinds.VaultKey
kind_from (inr (inr (inr (inr (inr u))))) = kinds.Limit

unfoldable pub kind : Codec Kind
kind = by kind_to kind_from
    (elim [ kinds.Coin ↦ refl | kinds.Cap ↦ refl | kinds.Counter ↦ refl | kinds.Vault ↦ refl | kinds.VaultKey ↦ refl | kinds.Limit ↦ refl ])
    (elim [ inl u ↦ refl | inr (inl u) ↦ refl | inr (inr (inl u)) ↦ refl | inr (inr (inr (inl u))) ↦ refl | inr (inr (inr (inr (inl u)))) ↦ refl | inr (inr (inr (inr (inr u)))) ↦ refl ])
    (choice
    (case 0 nothing  -- Coin
    (case 1 nothing  -- Cap
    (case 2 nothing  -- Counter
    (case 3 nothing  -- Vault
    (case 4 nothing  -- VaultKey
    (last 5 nothing)  -- Limit
    refl) refl) refl) refl) refl) refl)

-- ---- Coin 0 (currency, balance); Cap 1 (currency, supply); Counter 2 (value); Vault 3 (currency, balance); VaultKey 4 (vault); Limit 5 (value)

abbrev pub ContentParts : Type 0
ContentParts = (ℕ × ℕ) ⊎ ((ℕ × ℕ) ⊎ (ℕ ⊎ ((ℕ × ℕ) ⊎ (ObjectId ⊎ ℕ))))

abbrev pub content_to : Content → ContentParts
content_to (contents.Coin currency balance) = inl (currency, balance)
content_to (contents.Cap currency supply) = inr (inl (currency, supply))
content_to (contents.Counter value) = inr (inr (inl value))
content_to (contents.Vault currency balance) = inr (inr (inr (inl (currency, balance))))
content_to (contents.VaultKey vault) = inr (inr (inr (inr (inl vault))))
content_to (contents.Limit value) = inr (inr (inr (inr (inr value))))

abbrev pub content_from : ContentParts → Content
content_from (inl p) = contents.Coin p.0 p.1
content_from (inr (inl p)) = contents.Cap p.0 p.1
content_from (inr (inr (inl value))) = contents.Counter value
content_from (inr (inr (inr (inl p)))) = contents.Vault p.0 p.1
content_from (inr (inr (inr (inr (inl vault))))) = contents.VaultKey vault
content_from (inr (inr (inr (inr (inr value))))) = contents.Limit value

unfoldable pub content : Codec Content
content = by content_to content_from
    (elim [ contents.Coin a b ↦ refl | contents.Cap a b ↦ refl | contents.Counter a ↦ refl | contents.Vault a b ↦ refl | contents.VaultKey a ↦ refl | contents.Limit a ↦ refl ])
    (elim [ inl p ↦ refl | inr (inl p) ↦ refl | inr (inr (inl a)) ↦ refl | inr (inr (inr (inl p))) ↦ refl | inr (inr (inr (inr (inl a)))) ↦ refl | inr (inr (inr (inr (inr a)))) ↦ refl ])
    (choice
    (case 0 (pair (number 8) (number 8))  -- Coin
    (case 1 (pair (number 8) (number 8))  -- Cap
    (case 2 (number 8)  -- Counter
    (case 3 (pair (number 8) (number 8))  -- Vault
    (case 4 object_id  -- VaultKey
    (last 5 (number 8))  -- Limit
    refl) refl) refl) refl) refl) refl)

-- id, version, owner, content
unfoldable pub object : Codec Object
object = by (λ o. (o.id, (o.version, (o.owner, o.content)))) (λ p. record { id = p.0; version = p.1.0; owner = p.1.1.0; content = p.1.1.1 }) (λ _. refl) (λ _. refl)
    (pair object_id (pair (number 8) (pair owner content)))
