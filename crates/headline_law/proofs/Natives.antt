-- What natives give holds amounts, if what they are given does.
use Rattle.std.proofs.Common.{sym, subst, inl, inr, arith}
use Rattle.std.specs.Prelude.{◌≡◌, ◌<◌, ◌-◌, ◌⊎◌, ℕ, Bool, true, List, Option, Some, None}
use Rattle.chain_types.specs.declared.objects.Content.{Content}
use Rattle.protocol_spec.specs.declared.pieces.Item.{Item}
use Rattle.protocol_spec.specs.declared.pieces.Given.{Given}
use Rattle.protocol_spec.specs.declared.pieces.Placed.{Placed}
use Rattle.protocol_spec.specs.declared.pieces.Gave.{Gave}
use Rattle.protocol_spec.specs.declared.pieces.Gave.TheVariants as gave
use Rattle.protocol_spec.proofs.ListLemmas.{each_as}
use Rattle.protocol_spec.proofs.Gifts.{takes_vault, Handed, IsChange, Holds, IsResult, Changes, Leaves, Gift, gift}
use Rattle.protocol_spec.specs.Chain.Words.{Each}
use Rattle.protocol_spec.specs.Block.Natives.{amount_of, with_amount, amount_limit, parameters_of, Site, no_item, item_at, native_gives}
use Rattle.headline_law.proofs.Low.{Low, LowNumber, with-low, less-low, small-low, zero-low, limit-low}

module _ (all : Bool) where
  abbrev pub LowItem : Item → Type 0
  LowItem i = Low all i.content

  abbrev pub LowPlaced : Placed → Type 0
  LowPlaced p = LowItem p.item

  abbrev pub LowChange : Option Item → Type 0
  LowChange None = Unit {0}
  LowChange (Some i) = LowItem i

  abbrev pub LowLeft : Option Placed → Type 0
  LowLeft None = Unit {0}
  LowLeft (Some p) = LowPlaced p

  pub record IsLowGift (results : List Item) (changed : Option Item) (left : Option Placed) : Type 0 where
    pub results_are : Each LowItem results
    pub changed_is : LowChange changed
    pub left_is : LowLeft left

  abbrev pub Gives : Gave → Type 0
  Gives (gave.Abort code) = Unit {0}
  Gives (gave.Done results changed left made) = IsLowGift results changed left

  abbrev pub LowGiven : Given → Type 0
  LowGiven = Handed LowItem (LowNumber all)

  no-item : LowItem no_item
  no-item = limit-low all 0 (zero-low all)

  change-low : (i : Item) → IsChange LowItem (LowNumber all) i → LowItem i
  change-low i c = subst LowItem (sym c.same) (go c.low)
    where
      go : (c.number < amount_limit) ⊎ ((less : ℕ) × (c.number ≡ amount_of c.was.content - less)) → Low all (with_amount c.number c.was.content)
      go (inl small) = with-low all c.number c.was.content small
      go (inr (less, e)) = subst (λ (n : ℕ). Low all (with_amount n c.was.content)) (sym e) (less-low all less c.was.content c.had)

  changed-low : (o : Option Item) → Changes LowItem (LowNumber all) o → LowChange o
  changed-low None c = tt
  changed-low (Some i) c = change-low i c

  left-low : (s : Site) (o : Option Placed) → Leaves LowItem (LowNumber all) s o → LowLeft o
  left-low s None l = tt
  left-low s (Some p) l = l.0

  -- a vault that comes first holds an amount
  abbrev pub IsVaultFor : ℕ → List Given → Type 0
  IsVaultFor native args = takes_vault (parameters_of native) ≡ true → amount_of (item_at args 0).content < amount_limit

  module _ (native : ℕ) (args : List Given) (vault : IsVaultFor native args) where
    new-low : (c : Content) → Holds LowItem (LowNumber all) native args c → Low all c
    new-low c (inl small) = small-low all c small
    new-low c (inr (inl (n, low, inl e))) = subst (Low all) (sym e) low
    new-low c (inr (inl (n, low, inr e))) = subst (Low all) (sym e) (limit-low all n low)
    new-low c (inr (inr (takes, le))) = let small = vault takes in small-low all c (omega (arith, le, small))

    result-low : (s : Site) (made : ℕ) (i : Item) → IsResult LowItem (LowNumber all) native s args made i → LowItem i
    result-low s made i (inl n) = new-low i.content n.holds
    result-low s made i (inr c) = change-low i c

    pub native-low : (s : Site) → Each LowGiven args → Gives (native_gives native s args)
    native-low s low = go (native_gives native s args) (gift LowItem (LowNumber all) no-item (zero-low all) s args low native)
      where
        go : (g : Gave) → Gift LowItem (LowNumber all) s args native g → Gives g
        go (gave.Abort code) h = tt
        go (gave.Done results changed left made) h = record {
          results_are = each_as (IsResult LowItem (LowNumber all) native s args made) LowItem results (result-low s made) h.results_are;
          changed_is = changed-low changed h.changed_is;
          left_is = left-low s left h.left_is;
        }
