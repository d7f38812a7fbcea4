-- A start from older records.
use Rattle.std.proofs.Common.{refl}
use Rattle.std.specs.Prelude.{◌≡◌, ℕ, suc, Bool, true, false, cond, ◌&&◌, List, [], ◌∷◌, map, Ok, Err, is_ok}
use Rattle.digest_core.specs.declared.Digest.{Digest}
use Rattle.chain_types.specs.declared.objects.Object.{Object}
use Rattle.chain_types.specs.Equal.{digest_eq}
use Rattle.journal_core.specs.declared.records.RanItem.{RanItem}
use Rattle.journal_core.specs.declared.records.Record.{Record}
use Rattle.journal_core.specs.declared.records.Record.TheVariants as record_as
use Rattle.protocol_spec.specs.Chain.Tests.{list_eq}
use Rattle.protocol_spec.specs.Chain.Certificates.{Rules}
use Rattle.protocol_spec.proofs.ListLemmas.{and-first, and-second}
use Rattle.protocol_spec.proofs.Truth.{both_true}
use Rattle.protocol_spec.specs.Member.Member.{Member, fresh, after}
use Rattle.protocol_spec.specs.Member.Calls.{ran_items, run_answer}
use Rattle.protocol_spec.specs.Member.Replay.{ran_item_eq, is_some_list, is_allowed, replayed_from, replayed}
use Rattle.run_law.specs.Laws.{as_older}

same-after : (r : Rules) (m : Member) (x : Record) → after r m (as_older x) ≡ after r m x
unfolding after
same-after r m (record_as.Vote tx origins) = refl
same-after r m (record_as.Hold c) = refl
same-after r m (record_as.See bytes) = refl
same-after r m record_as.Close = refl
same-after r m (record_as.Ran txs) = refl
same-after r m record_as.Turn = refl
same-after r m (record_as.Ran2 items) = refl

abbrev tx_of : RanItem → Digest
tx_of i = i.tx

same-txs : (xs ys : List RanItem) → list_eq ran_item_eq xs ys ≡ true → list_eq digest_eq (map tx_of xs) (map tx_of ys) ≡ true
same-txs [] [] e = refl
same-txs [] (y ∷ ys) e = absurd (cc)
same-txs (x ∷ xs) [] e = absurd (cc)
same-txs (x ∷ xs) (y ∷ ys) e = both_true (digest_eq x.tx y.tx) (list_eq digest_eq (map tx_of xs) (map tx_of ys))
    (and-first (digest_eq x.tx y.tx) (digest_eq x.effects y.effects) (and-first (ran_item_eq x y) (list_eq ran_item_eq xs ys) e))
    (same-txs xs ys (and-second (ran_item_eq x y) (list_eq ran_item_eq xs ys) e))

some-map : (xs : List RanItem) → is_some_list xs ≡ true → is_some_list (map tx_of xs) ≡ true
some-map [] e = absurd (cc)
some-map (x ∷ xs) e = refl

still-allowed : (r : Rules) (m : Member) (x : Record) → is_allowed r m x ≡ true → is_allowed r m (as_older x) ≡ true
unfolding is_allowed
still-allowed r m (record_as.Vote tx origins) e = e
still-allowed r m (record_as.Hold c) e = e
still-allowed r m (record_as.See bytes) e = e
still-allowed r m record_as.Close e = e
still-allowed r m (record_as.Ran txs) e = e
still-allowed r m record_as.Turn e = e
still-allowed r m (record_as.Ran2 items) e =
    let front = and-first (is_ok (run_answer r m) && is_some_list items) (list_eq ran_item_eq items (ran_items m)) e in
    both_true (is_ok (run_answer r m) && is_some_list (map tx_of items)) (list_eq digest_eq (map tx_of items) (map tx_of (ran_items m)))
    (both_true (is_ok (run_answer r m)) (is_some_list (map tx_of items)) (and-first (is_ok (run_answer r m)) (is_some_list items) front) (some-map items (and-second (is_ok (run_answer r m)) (is_some_list items) front)))
    (same-txs items (ran_items m) (and-second (is_ok (run_answer r m) && is_some_list items) (list_eq ran_item_eq items (ran_items m)) e))

older-from : (r : Rules) (records : List Record) (m last : Member) (place : ℕ) → replayed_from r m place records ≡ Ok last → replayed_from r m place (map as_older records) ≡ Ok last
older-from r [] m last place e = e
older-from r (x ∷ xs) m last place e = go (is_allowed r m x) refl e (older-from r xs (after r m x) last (suc place))
  where
    go : (b : Bool) → is_allowed r m x ≡ b → cond b (replayed_from r (after r m x) (suc place) xs) (Err place) ≡ Ok last
        → (replayed_from r (after r m x) (suc place) xs ≡ Ok last → replayed_from r (after r m x) (suc place) (map as_older xs) ≡ Ok last)
        → replayed_from r m place (map as_older (x ∷ xs)) ≡ Ok last
    go true h e rest = rw (still-allowed r m x h, same-after r m x) (rest e)
    go false h e rest = absurd (cc)

pub older_read : (r : Rules) (opening : List Object) (records : List Record) (m : Member) → replayed r opening records ≡ Ok m → replayed r opening (map as_older records) ≡ Ok m
unfolding replayed
older_read r opening records m e = older-from r records (fresh opening) m 0 e
