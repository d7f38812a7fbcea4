-- What natives give, one law for all that is said of it: each result is new or was handed over, one object at most
-- changes in place, and one at most leaves the block.
use Rattle.std.proofs.Common.{refl, ap, inl, inr, add-zero, arith}
use Rattle.std.proofs.lemmas.Bool.{leb-false, ltb-false}
use Rattle.std.specs.Prelude.{◌≡◌, ◌≤◌, ◌<◌, ◌+◌, ◌-◌, ◌⊎◌, ℕ, zero, suc, Bool, true, false, not, nat_lt, nat_le, List, [], ◌∷◌, sum_by, slice_get, Option, Some, None}
use Rattle.std.specs.List.{list_any}
use Rattle.digest_core.specs.declared.Digest.{Digest}
use Rattle.digest_core.specs.Tagged.{created_id_of}
use Rattle.chain_types.specs.declared.objects.ObjectId.{ObjectId}
use Rattle.chain_types.specs.declared.objects.Kind.TheVariants as kind
use Rattle.chain_types.specs.declared.objects.Content.{Content}
use Rattle.chain_types.specs.declared.objects.Content.TheVariants as content
use Rattle.chain_types.specs.declared.objects.Owner.{Owner}
use Rattle.chain_types.specs.declared.objects.Owner.TheVariants as owner
use Rattle.protocol_spec.specs.declared.pieces.Item.{Item}
use Rattle.protocol_spec.specs.declared.pieces.Given.{Given}
use Rattle.protocol_spec.specs.declared.pieces.Given.TheVariants as given
use Rattle.protocol_spec.specs.declared.pieces.Placed.{Placed}
use Rattle.protocol_spec.specs.declared.pieces.Gave.{Gave}
use Rattle.protocol_spec.specs.declared.pieces.Gave.TheVariants as gave
use Rattle.chain_types.specs.declared.natives.Mode.{Mode}
use Rattle.chain_types.specs.declared.natives.Mode.TheVariants as mode
use Rattle.protocol_spec.specs.Chain.Words.{Each}
use Rattle.protocol_spec.specs.Chain.Tests.{kind_eq}
use Rattle.protocol_spec.specs.Block.Natives.{currency_of, amount_of, holding, parameters, parameters_of, amount_limit, names_vault, may_be_shared, no_item, number_given, number_at, item_given, item_at, items_given, items_at, Site, new_item, gives, owned_by_all, abort_if, other_currency, joined, coin_mint, coin_burn, counter_add, counter_require, vault_new, vault_deposit, vault_withdraw, share, counter_add_limited, native_gives}

-- ---- what is said of a gift

abbrev pub drawn_id : Digest → ℕ → ObjectId
drawn_id tx n = record { 0 = created_id_of tx n }

-- the ids that the transaction draws, from this number on, in their order
abbrev pub InOrder : Digest → ℕ → List Item → Type 0
InOrder tx n [] = Unit {0}
InOrder tx n (i ∷ is) = (i.id ≡ drawn_id tx n) × InOrder tx (n + 1) is

-- a vault comes first, to be changed
abbrev pub is_vault : Mode → Bool
is_vault mode.Number = false
is_vault (mode.ByValue k) = false
is_vault (mode.ByMut k) = kind_eq k kind.Vault
is_vault (mode.ByRef k) = false
is_vault mode.Coins = false

abbrev pub takes_vault : List Mode → Bool
takes_vault [] = false
takes_vault (m ∷ ms) = is_vault m

-- an object that leaves is shared only if the block made it, from the version of the transaction on
abbrev pub MayLeave : Site → Item → Owner → Type 0
MayLeave s i (owner.Address a) = Unit {0}
MayLeave s i (owner.Shared initial) = (initial ≡ s.version) × (i.fresh ≡ true)
MayLeave s i owner.Immutable = Unit {0}

-- P of each object that is handed over, and N of each number
module _ (P : Item → Type 0) (N : ℕ → Type 0) where
  abbrev pub Handed : Given → Type 0
  Handed (given.Number n) = N n
  Handed (given.Item i) = P i
  Handed (given.Items is) = Each P is

  -- an object that was handed over, with another amount, or with less than it had
  pub record IsChange (i : Item) : Type 0 where
    pub was : Item
    pub had : P was
    pub number : ℕ
    pub same : i ≡ holding number was
    pub low : (number < amount_limit) ⊎ ((less : ℕ) × (number ≡ amount_of was.content - less))

  -- a new object holds an amount, a number that was handed over, or no more than the vault that comes first
  abbrev pub Holds : ℕ → List Given → Content → Type 0
  Holds native args c =
      (amount_of c < amount_limit)
      ⊎ (((n : ℕ) × N n × ((c ≡ content.Counter n) ⊎ (c ≡ content.Limit n)))
      ⊎ ((takes_vault (parameters_of native) ≡ true) × (amount_of c ≤ amount_of (item_at args 0).content)))

  pub record IsNew (native : ℕ) (s : Site) (args : List Given) (made : ℕ) (i : Item) : Type 0 where
    pub number : ℕ
    pub low : number < made
    pub same : i.id ≡ drawn_id s.tx number
    pub holds : Holds native args i.content

  abbrev pub IsResult : ℕ → Site → List Given → ℕ → Item → Type 0
  IsResult native s args made i = IsNew native s args made i ⊎ IsChange i

  abbrev pub Changes : Option Item → Type 0
  Changes None = Unit {0}
  Changes (Some i) = IsChange i

  abbrev pub Leaves : Site → Option Placed → Type 0
  Leaves s None = Unit {0}
  Leaves s (Some p) = P p.item × MayLeave s p.item p.owner

  -- two numbers of creations are drawn at most; if any is, the results are what was drawn
  pub record IsGift (native : ℕ) (s : Site) (args : List Given) (results : List Item) (changed : Option Item) (left : Option Placed) (made : ℕ) : Type 0 where
    pub rises : s.made ≤ made
    pub few : made ≤ s.made + 2
    pub drawn : (made ≡ s.made) ⊎ InOrder s.tx s.made results
    pub results_are : Each (IsResult native s args made) results
    pub changed_is : Changes changed
    pub left_is : Leaves s left

  abbrev pub Gift : Site → List Given → ℕ → Gave → Type 0
  Gift s args native (gave.Abort code) = Unit {0}
  Gift s args native (gave.Done results changed left made) = IsGift native s args results changed left made

-- ---- by number

-- a fact of the number of each element, and of every number past the end
abbrev pub EachNumber : {A : Type 0} → (ℕ → Type 0) → List A → Type 0
EachNumber F [] = (n : ℕ) → F n
EachNumber F (x ∷ xs) = F 0 × EachNumber (λ (n : ℕ). F (suc n)) xs

pub at-number : {A : Type 0} (F : ℕ → Type 0) (xs : List A) → EachNumber F xs → (n : ℕ) → F n
at-number F [] each n = each n
at-number F (x ∷ xs) each zero = each.0
at-number F (x ∷ xs) each (suc n) = at-number (λ (k : ℕ). F (suc k)) xs each.1 n

nothing : 0 < amount_limit
nothing = omega arith

-- ---- the natives

module _ (P : Item → Type 0) (N : ℕ → Type 0) (none : P no_item) (none_number : N 0) (s : Site) (args : List Given) (handed : Each (Handed P N) args) where
  item-had : (xs : List Given) → Each (Handed P N) xs → (n : ℕ) → P (item_given (slice_get xs n))
  item-had [] each n = none
  item-had (given.Number k ∷ xs) each zero = none
  item-had (given.Item i ∷ xs) each zero = each.0
  item-had (given.Items is ∷ xs) each zero = none
  item-had (x ∷ xs) each (suc n) = item-had xs each.1 n

  number-had : (xs : List Given) → Each (Handed P N) xs → (n : ℕ) → N (number_given (slice_get xs n))
  number-had [] each n = none_number
  number-had (given.Number k ∷ xs) each zero = each.0
  number-had (given.Item i ∷ xs) each zero = none_number
  number-had (given.Items is ∷ xs) each zero = none_number
  number-had (x ∷ xs) each (suc n) = number-had xs each.1 n

  items-had : (xs : List Given) → Each (Handed P N) xs → (n : ℕ) → Each P (items_given (slice_get xs n))
  items-had [] each n = tt
  items-had (given.Number k ∷ xs) each zero = tt
  items-had (given.Item i ∷ xs) each zero = tt
  items-had (given.Items is ∷ xs) each zero = each.0
  items-had (x ∷ xs) each (suc n) = items-had xs each.1 n

  abbrev one : Item
  one = item_at args 0

  one-had : P one
  one-had = item-had args handed 0

  change-to : (n : ℕ) (i : Item) → P i → n < amount_limit → IsChange P N (holding n i)
  change-to n i had small = record { was = i; had = had; number = n; same = refl; low = inl small }

  change-by : (n : ℕ) (i : Item) → P i → IsChange P N (holding (amount_of i.content - n) i)
  change-by n i had = record { was = i; had = had; number = amount_of i.content - n; same = refl; low = inr (n, refl) }

  module _ (native : ℕ) where
    abbrev Gives : Gave → Type 0
    Gives g = Gift P N s args native g

    unless-stops : (stops : Bool) (code : ℕ) (rest : Gave) → (stops ≡ false → Gives rest) → Gives (abort_if stops code rest)
    unless-stops true code rest fact = tt
    unless-stops false code rest fact = fact refl

    new : (k : ℕ) (c : Content) (made : ℕ) → s.made + k < made → Holds P N native args c → IsResult P N native s args made (new_item s k c)
    new k c made low holds = inl (record { number = s.made + k; low = low; same = refl; holds = holds })

    next : drawn_id s.tx (s.made + 0) ≡ drawn_id s.tx s.made
    next = ap (drawn_id s.tx) (add-zero s.made)

    given-new : (cs : List Content) (changed : Option Item) → Each (Holds P N native args) cs → Changes P N changed → Gives (gives s cs changed)
    given-new [] changed low is = record { rises = omega arith; few = omega arith; drawn = inl refl; results_are = tt; changed_is = is; left_is = tt }
    given-new (c ∷ cs) changed low is = record {
      rises = omega arith;
      few = omega arith;
      drawn = inr (next, tt);
      results_are = (new 0 c (s.made + 1) (omega arith) low.0, tt);
      changed_is = is;
      left_is = tt;
    }

    given-away : (i : Item) (who : Owner) → P i → MayLeave s i who → Gives (owned_by_all s i who)
    given-away i who had may = record { rises = omega arith; few = omega arith; drawn = inl refl; results_are = tt; changed_is = tt; left_is = (had, may) }

    new-one : (c : Content) → Holds P N native args c → Gives (gives s (c ∷ []) None)
    new-one c holds = given-new (c ∷ []) None (holds, tt) tt

    -- a change of an object to an amount, after a test that it is one
    behind-limit : (n code : ℕ) (cs : List Content) (i : Item) → P i → (n < amount_limit → Each (Holds P N native args) cs) → Gives (abort_if (nat_le amount_limit n) code (gives s cs (Some (holding n i))))
    behind-limit n code cs i had low = unless-stops (nat_le amount_limit n) code (gives s cs (Some (holding n i))) (λ e.
        let small = leb-false amount_limit n e in
        given-new cs (Some (holding n i)) (low small) (change-to n i had small))

    minted : (cap : Item) (n : ℕ) → P cap → Gives (coin_mint s cap n)
    minted cap n had = behind-limit (amount_of cap.content + n) 1 (content.Coin (currency_of cap.content) n ∷ []) cap had (λ small. (inl (part-small (amount_of cap.content) n small), tt))
      where
        part-small : (a b : ℕ) → a + b < amount_limit → b < amount_limit
        part-small a b small = omega (arith, small)

    burnt : (cap coin : Item) → P cap → Gives (coin_burn s cap coin)
    burnt cap coin had = unless-stops (other_currency cap coin) 1 (abort_if (nat_lt (amount_of cap.content) (amount_of coin.content)) 2 last)
        (λ e. unless-stops (nat_lt (amount_of cap.content) (amount_of coin.content)) 2 last
        (λ f. given-new [] (Some (holding (amount_of cap.content - amount_of coin.content) cap)) tt (change-by (amount_of coin.content) cap had)))
      where
        last : Gave
        last = gives s [] (Some (holding (amount_of cap.content - amount_of coin.content) cap))

    joined-given : (is : List Item) → Each P is → Gives (joined s is)
    joined-given [] had = tt
    joined-given (first ∷ others) had =
        unless-stops (list_any (other_currency first) others) 2
        (abort_if (nat_le amount_limit total) 3 (gave.Done (holding total first ∷ []) None None s.made))
        (λ e. unless-stops (nat_le amount_limit total) 3 (gave.Done (holding total first ∷ []) None None s.made) (λ f. record {
          rises = omega arith;
          few = omega arith;
          drawn = inl refl;
          results_are = (inr (change-to total first had.0 (leb-false amount_limit total f)), tt);
          changed_is = tt;
          left_is = tt;
        }))
      where
        total : ℕ
        total = amount_of first.content + sum_by (λ (i : Item). amount_of i.content) others

    added : (counter : Item) (n : ℕ) → P counter → Gives (counter_add s counter n)
    added counter n had = behind-limit (amount_of counter.content + n) 1 [] counter had (λ small. tt)

    required : (counter : Item) (least : ℕ) → Gives (counter_require s counter least)
    required counter least = unless-stops (nat_lt (amount_of counter.content) least) 1 (gives s [] None) (λ e. given-new [] None tt tt)

    opened : (currency : ℕ) → Gives (vault_new s currency)
    opened currency = record {
      rises = omega arith;
      few = omega arith;
      drawn = inr (next, (refl, tt));
      results_are = (
        new 0 (content.Vault currency 0) (s.made + 2) (omega arith) (inl nothing),
        (new 1 (content.VaultKey (drawn_id s.tx s.made)) (s.made + 2) (omega arith) (inl nothing), tt),
      );
      changed_is = tt;
      left_is = tt;
    }

    deposited : (vault coin : Item) → P vault → Gives (vault_deposit s vault coin)
    deposited vault coin had =
        unless-stops (other_currency vault coin) 1 (abort_if (nat_le amount_limit (amount_of vault.content + amount_of coin.content)) 2 (gives s [] (Some (holding (amount_of vault.content + amount_of coin.content) vault))))
        (λ e. behind-limit (amount_of vault.content + amount_of coin.content) 2 [] vault had (λ small. tt))

    withdrawn : takes_vault (parameters_of native) ≡ true → (key : Item) (n : ℕ) → Gives (vault_withdraw s one key n)
    withdrawn takes key n = unless-stops (not (names_vault one.id key.content)) 1 (abort_if (nat_lt (amount_of one.content) n) 2 paid) (λ e.
        unless-stops (nat_lt (amount_of one.content) n) 2 paid (λ f.
        given-new (content.Coin (currency_of one.content) n ∷ []) (Some (holding (amount_of one.content - n) one)) (inr (inr (takes, ltb-false (amount_of one.content) n f)), tt) (change-by n one one-had)))
      where
        paid : Gave
        paid = gives s (content.Coin (currency_of one.content) n ∷ []) (Some (holding (amount_of one.content - n) one))

    shared : (i : Item) → P i → Gives (share s i)
    shared i had = unless-stops (not i.fresh) 1 (abort_if (not (may_be_shared i.content)) 2 (owned_by_all s i (owner.Shared s.version))) (λ e.
        unless-stops (not (may_be_shared i.content)) 2 (owned_by_all s i (owner.Shared s.version)) (λ f. given-away i (owner.Shared s.version) had (refl, is-true i.fresh e)))
      where
        is-true : (b : Bool) → not b ≡ false → b ≡ true
        is-true true e = refl
        is-true false e = absurd (cc)

    limited : (counter : Item) (n : ℕ) (limit : Item) → P counter → Gives (counter_add_limited s counter n limit)
    limited counter n limit had = unless-stops (nat_le amount_limit (amount_of counter.content + n)) 1 (abort_if (nat_lt (amount_of limit.content) (amount_of counter.content + n)) 2 last) (λ e.
        unless-stops (nat_lt (amount_of limit.content) (amount_of counter.content + n)) 2 last (λ f.
        given-new [] (Some (holding (amount_of counter.content + n) counter)) tt (change-to (amount_of counter.content + n) counter had (leb-false amount_limit (amount_of counter.content + n) e))))
      where
        last : Gave
        last = gives s [] (Some (holding (amount_of counter.content + n) counter))

  -- ---- all of them

  number-is : N (number_at args 0)
  number-is = number-had args handed 0

  abbrev IsGiven : ℕ → Type 0
  IsGiven native = Gift P N s args native (native_gives native s args)

  each-given : EachNumber IsGiven parameters
  unfolding native_gives
  each-given = (
    new-one 0 (content.Coin (number_at args 0) 0) (inl nothing),
    (
      minted 1 one (number_at args 1) one-had,
      (
        burnt 2 one (item_at args 1) one-had,
        (
          joined-given 3 (items_at args 0) (items-had args handed 0),
          (
            new-one 4 (content.Counter (number_at args 0)) (inr (inl (number_at args 0, number-is, inl refl))),
            (
              added 5 one (number_at args 1) one-had,
              (
                required 6 one (number_at args 1),
                (
                  opened 7 (number_at args 0),
                  (
                    deposited 8 one (item_at args 1) one-had,
                    (
                      withdrawn 9 refl (item_at args 1) (number_at args 2),
                      (
                        shared 10 one one-had,
                        (
                          given-away 11 one owner.Immutable one-had tt,
                          (
                            new-one 12 (content.Limit (number_at args 0)) (inr (inl (number_at args 0, number-is, inr refl))),
                            (limited 13 one (number_at args 1) (item_at args 2) one-had, λ n. tt),
                          ),
                        ),
                      ),
                    ),
                  ),
                ),
              ),
            ),
          ),
        ),
      ),
    ),
  )

  pub gift : (native : ℕ) → Gift P N s args native (native_gives native s args)
  gift native = at-number IsGiven parameters each-given native

-- ---- of any arguments

abbrev pub Any : Item → Type 0
Any i = Unit {0}

abbrev pub AnyNumber : ℕ → Type 0
AnyNumber n = Unit {0}

any-items : (is : List Item) → Each Any is
any-items [] = tt
any-items (i ∷ is) = (tt, any-items is)

any-handed : (args : List Given) → Each (Handed Any AnyNumber) args
any-handed [] = tt
any-handed (given.Number n ∷ args) = (tt, any-handed args)
any-handed (given.Item i ∷ args) = (tt, any-handed args)
any-handed (given.Items is ∷ args) = (any-items is, any-handed args)

pub any-gift : (s : Site) (args : List Given) (native : ℕ) → Gift Any AnyNumber s args native (native_gives native s args)
any-gift s args native = gift Any AnyNumber tt tt s args (any-handed args) native
