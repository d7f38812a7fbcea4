-- What stands in the table after all keys of a transaction were locked.
use Rattle.std.proofs.Common.{◌≡◌, Bool, true, false, cond, List, [], ◌∷◌, Option, Some, None, refl, ap, sym, ◌∙◌, inl, inr}
use Rattle.std.specs.Prelude.{◌⊎◌}
use Rattle.indexmap.specs.IndexMap.{insert_entry}
use Rattle.digest_core.specs.declared.Digest.{Digest}
use Rattle.chain_types.specs.declared.objects.ObjectKey.{ObjectKey}
use Rattle.chain_types.specs.Equal.{digest_eq, key_eq}
use Rattle.lock_table.specs.Locks.{Locks, locked_by, or_other, other_lock, unless_own, with_locks}
use Rattle.protocol_spec.proofs.Equality.{digest_same, key_same, key_self}

-- the key is among the keys
abbrev pub Among : ObjectKey → List ObjectKey → Type 0
Among key [] = ⊥
Among key (k ∷ ks) = (key ≡ k) ⊎ Among key ks

-- a transaction that holds one of the keys is this one
abbrev pub IsFree : Locks → List ObjectKey → Digest → Type 0
IsFree locks keys tx = (key : ObjectKey) → Among key keys → (by : Digest) → locked_by locks key ≡ Some by → by ≡ tx

-- after a key was locked, it is the transaction's
put_same : (locks : Locks) (key : ObjectKey) (tx : Digest) → locked_by (insert_entry key_eq locks key tx) key ≡ Some tx
put_same [] key tx = ap (λ b. cond b (Some tx) None) (key_self key)
put_same (l ∷ ls) key tx = by (key_eq key l.0) refl (put_same ls key tx)
  where
    by : (b : Bool) → key_eq key l.0 ≡ b → locked_by (insert_entry key_eq ls key tx) key ≡ Some tx → locked_by (insert_entry key_eq (l ∷ ls) key tx) key ≡ Some tx
    by true is more = ap (λ b. locked_by (cond b ((l.0, tx) ∷ ls) (l ∷ insert_entry key_eq ls key tx)) key) is ∙ ap (λ b. cond b (Some tx) (locked_by ls key)) is
    by false is more =
        ap (λ b. locked_by (cond b ((l.0, tx) ∷ ls) (l ∷ insert_entry key_eq ls key tx)) key) is ∙ ap (λ b. cond b (Some l.1) (locked_by (insert_entry key_eq ls key tx) key)) is ∙ more

-- every other key is as it was
pub put_other : (locks : Locks) (key : ObjectKey) (tx : Digest) (q : ObjectKey) → key_eq q key ≡ false → locked_by (insert_entry key_eq locks key tx) q ≡ locked_by locks q
put_other [] key tx q apart = ap (λ b. cond b (Some tx) None) apart
put_other (l ∷ ls) key tx q apart = by (key_eq key l.0) refl (put_other ls key tx q apart)
  where
    by : (b : Bool) → key_eq key l.0 ≡ b → locked_by (insert_entry key_eq ls key tx) q ≡ locked_by ls q → locked_by (insert_entry key_eq (l ∷ ls) key tx) q ≡ locked_by (l ∷ ls) q
    by true is more =
        let e : key_eq q l.0 ≡ false = ap (λ k. key_eq q k) (sym (key_same key l.0 is)) ∙ apart in
        ap (λ b. locked_by (cond b ((l.0, tx) ∷ ls) (l ∷ insert_entry key_eq ls key tx)) q) is ∙ ap (λ b. cond b (Some tx) (locked_by ls q)) e
        ∙ sym (ap (λ b. cond b (Some l.1) (locked_by ls q)) e)
    by false is more =
        ap (λ b. locked_by (cond b ((l.0, tx) ∷ ls) (l ∷ insert_entry key_eq ls key tx)) q) is ∙ ap (λ x. cond (key_eq q l.0) (Some l.1) x) more

-- one more key of the transaction is locked, and the keys are still free for it
put_free : (locks : Locks) (key : ObjectKey) (keys : List ObjectKey) (tx : Digest) → IsFree locks keys tx → IsFree (insert_entry key_eq locks key tx) keys tx
put_free locks key keys tx free q among by h = go (key_eq q key) refl
  where
    go : (b : Bool) → key_eq q key ≡ b → by ≡ tx
    go true is =
        let e : Some by ≡ Some tx = sym h ∙ ap (λ k. locked_by (insert_entry key_eq locks key tx) k) (key_same q key is) ∙ put_same locks key tx in cc
    go false is = free q among by (sym (put_other locks key tx q is) ∙ h)

-- a lock stays if the keys are free for the transaction
pub stays : (keys : List ObjectKey) (locks : Locks) (tx : Digest) (q : ObjectKey) (by : Digest) → IsFree locks keys tx → locked_by locks q ≡ Some by → locked_by (with_locks locks keys tx) q ≡ Some by
stays [] locks tx q by free h = h
stays (key ∷ keys) locks tx q by free h =
    stays keys (insert_entry key_eq locks key tx) tx q by (put_free locks key keys tx (λ k among. free k (inr among))) (go (key_eq q key) refl)
  where
    go : (b : Bool) → key_eq q key ≡ b → locked_by (insert_entry key_eq locks key tx) q ≡ Some by
    go true is =
        let same : q ≡ key = key_same q key is in
        let own : by ≡ tx = free key (inl refl) by (ap (locked_by locks) (sym same) ∙ h) in
        ap (λ k. locked_by (insert_entry key_eq locks key tx) k) same ∙ put_same locks key tx ∙ ap Some (sym own)
    go false is = put_other locks key tx q is ∙ h

-- all the keys are the transaction's
pub all_locked : (keys : List ObjectKey) (locks : Locks) (tx : Digest) (q : ObjectKey) → IsFree locks keys tx → Among q keys → locked_by (with_locks locks keys tx) q ≡ Some tx
all_locked [] locks tx q free among = absurd among
all_locked (key ∷ keys) locks tx q free (inl is) =
    stays keys (insert_entry key_eq locks key tx) tx q tx (put_free locks key keys tx (λ k among. free k (inr among)))
    (ap (λ k. locked_by (insert_entry key_eq locks key tx) k) is ∙ put_same locks key tx)
all_locked (key ∷ keys) locks tx q free (inr among) =
    all_locked keys (insert_entry key_eq locks key tx) tx q (put_free locks key keys tx (λ k a. free k (inr a))) among

own_from : (key : ObjectKey) (tx by : Digest) → unless_own key tx (Some by) ≡ None → by ≡ tx
own_from key tx by h = go (digest_eq by tx) refl h
  where
    go : (b : Bool) → digest_eq by tx ≡ b → cond {A = Option (ObjectKey × Digest)} b None (Some (key, by)) ≡ None → by ≡ tx
    go true is h = digest_same by tx is
    go false is h = absurd (cc)

-- if no key is another transaction's, the keys are free
pub free_from : (keys : List ObjectKey) (locks : Locks) (tx : Digest) → other_lock locks tx keys ≡ None → IsFree locks keys tx
free_from [] locks tx h key among by held = absurd among
free_from (k ∷ keys) locks tx h key among by held = go (unless_own k tx (locked_by locks k)) refl h among (free_from keys locks tx)
  where
    go : (x : Option (ObjectKey × Digest)) → unless_own k tx (locked_by locks k) ≡ x → or_other x (other_lock locks tx keys) ≡ None → (key ≡ k) ⊎ Among key keys
        → (other_lock locks tx keys ≡ None → IsFree locks keys tx) → by ≡ tx
    go None is rest (inl same) more = own_from k tx by (ap (unless_own k tx) (sym held ∙ ap (locked_by locks) same) ∙ is)
    go None is rest (inr among) more = more rest key among by held
    go (Some l) is rest a more = absurd (cc)
