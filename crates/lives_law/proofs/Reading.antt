-- The records that a start reads from a file, and those of the calls after it.
use Rattle.std.proofs.Common.{refl, sym, ap, ◌∙◌, append_assoc, append-nil}
use Rattle.std.specs.Prelude.{◌≡◌, ℕ, ◌+◌, suc, Bool, true, false, cond, fold, List, [], ◌∷◌, ◌++◌, Option, Some, None, Result, Ok, Err}
use Rattle.wire_bcs.specs.declared.fault.WireFault.{WireFault}
use Rattle.chain_types.specs.declared.objects.Object.{Object}
use Rattle.journal_core.specs.declared.records.Record.{Record}
use Rattle.protocol_spec.specs.declared.refusals.StartRefusal.{StartRefusal}
use Rattle.protocol_spec.specs.declared.refusals.StartRefusal.TheVariants as no_start
use Rattle.protocol_spec.specs.Chain.Words.{Each, IsFront, and_then}
use Rattle.protocol_spec.specs.Chain.Certificates.{Rules}
use Rattle.protocol_spec.specs.Member.Member.{Member, after, fresh, state}
use Rattle.protocol_spec.specs.Member.Calls.{Call, after_due, due}
use Rattle.protocol_spec.specs.Member.Replay.{is_allowed, replayed, replayed_from}
use Rattle.world_spec.specs.World.{appended}
use Rattle.world_spec.specs.Posts.{list_of}
use Rattle.world_spec.specs.Starts.{read_record, started, started_from, taken_at}
use Rattle.world_spec.specs.SceneWorlds.{spelled}
use Rattle.safety_law.proofs.Apart.{state-push}
use Rattle.lives_law.specs.Lives.{records_after}
use Rattle.lives_law.specs.Files.{IsReadBack, dues, record_then, records_read}
use Rattle.run_law.proofs.SceneStarts.{same-start}

-- ---- what is read

-- more bytes after these change nothing of what is read of them
pub read-front : (xs ys : List (List ℕ)) → IsFront (records_read xs) (records_read (xs ++ ys))
read-front [] ys = (records_read ys, refl)
read-front (bytes ∷ xs) ys = go (read_record bytes) (read-front xs ys)
  where
    go : (x : Result Record WireFault) → IsFront (records_read xs) (records_read (xs ++ ys)) → IsFront (record_then x (records_read xs)) (record_then x (records_read (xs ++ ys)))
    go (Ok x) (rest, e) = (rest, ap (λ (l : List Record). x ∷ l) e)
    go (Err fault) front = ([], refl)

pub read-spelled : (records : List Record) (more : List (List ℕ)) → Each IsReadBack records → records_read (spelled records ++ more) ≡ records ++ records_read more
read-spelled [] more each = refl
read-spelled (x ∷ records) more each =
    ap (λ (b : Result Record WireFault). record_then b (records_read (spelled records ++ more))) each.0
    ∙ ap (λ (l : List Record). x ∷ l) (read-spelled records more each.1)

-- ---- a start

abbrev started_as : Member → Result Member StartRefusal
started_as m = Ok m

abbrev replayed_as : Member → Result Member ℕ
replayed_as m = Ok m

same-replay : (m n : Member) → replayed_as m ≡ replayed_as n → m ≡ n
same-replay m n e = cc

module _ (r : Rules) where
  -- what a start reads is taken as the definition takes records
  replayed-at : (kept : List (List ℕ)) (m n : Member) (place at : ℕ) → started_from r m place kept ≡ Ok n → replayed_from r m at (records_read kept) ≡ Ok n
  replayed-at [] m n place at e = ap replayed_as (same-start m n e)
  replayed-at (bytes ∷ kept) m n place at e = go (read_record bytes) e (λ next q. replayed-at kept next n (place + 1) (suc at) q)
    where
      taken : (x : Record) (b : Bool) → and_then (cond b (started_as (after r m x)) (Err (no_start.BadRecord place 2))) (λ next. started_from r next (place + 1) kept) ≡ Ok n
          → ((next : Member) → started_from r next (place + 1) kept ≡ Ok n → replayed_from r next (suc at) (records_read kept) ≡ Ok n)
          → cond b (replayed_from r (after r m x) (suc at) (records_read kept)) (Err at) ≡ Ok n
      taken x true e rest = rest (after r m x) e
      taken x false e rest = absurd (cc)

      go : (x : Result Record WireFault) → and_then (taken_at r m place x) (λ next. started_from r next (place + 1) kept) ≡ Ok n
          → ((next : Member) → started_from r next (place + 1) kept ≡ Ok n → replayed_from r next (suc at) (records_read kept) ≡ Ok n)
          → replayed_from r m at (record_then x (records_read kept)) ≡ Ok n
      go (Ok x) e rest = taken x (is_allowed r m x) e rest
      go (Err fault) e rest = absurd (cc)

  -- records after those from which a member starts are read too
  read-started : (kept more : List (List ℕ)) (m n : Member) (place : ℕ) → started_from r m place kept ≡ Ok n → records_read (kept ++ more) ≡ records_read kept ++ records_read more
  read-started [] more m n place e = refl
  read-started (bytes ∷ kept) more m n place e = go (read_record bytes) e (λ next q. read-started kept more next n (place + 1) q)
    where
      taken : (x : Record) (b : Bool) → and_then (cond b (started_as (after r m x)) (Err (no_start.BadRecord place 2))) (λ next. started_from r next (place + 1) kept) ≡ Ok n
          → ((next : Member) → started_from r next (place + 1) kept ≡ Ok n → records_read (kept ++ more) ≡ records_read kept ++ records_read more)
          → records_read (kept ++ more) ≡ records_read kept ++ records_read more
      taken x true e rest = rest (after r m x) e
      taken x false e rest = absurd (cc)

      go : (x : Result Record WireFault) → and_then (taken_at r m place x) (λ next. started_from r next (place + 1) kept) ≡ Ok n
          → ((next : Member) → started_from r next (place + 1) kept ≡ Ok n → records_read (kept ++ more) ≡ records_read kept ++ records_read more)
          → record_then x (records_read (kept ++ more)) ≡ record_then x (records_read kept) ++ records_read more
      go (Ok x) e rest = ap (λ (l : List Record). x ∷ l) (taken x (is_allowed r m x) e rest)
      go (Err fault) e rest = absurd (cc)

  folded : (records : List Record) (m n : Member) (at : ℕ) → replayed_from r m at records ≡ Ok n → fold (after r) m records ≡ n
  folded [] m n at e = same-replay m n e
  folded (x ∷ records) m n at e = go (is_allowed r m x) e (λ q. folded records (after r m x) n (suc at) q)
    where
      go : (b : Bool) → cond b (replayed_from r (after r m x) (suc at) records) (Err at) ≡ Ok n → (replayed_from r (after r m x) (suc at) records ≡ Ok n → fold (after r) (after r m x) records ≡ n)
          → fold (after r) (after r m x) records ≡ n
      go true e rest = rest e
      go false e rest = absurd (cc)

module _ (r : Rules) (opening : List Object) where
  pub started-replayed : (kept : List (List ℕ)) (m : Member) → started r opening kept ≡ Ok m → replayed r opening (records_read kept) ≡ Ok m
  unfolding started replayed
  started-replayed kept m e = replayed-at r kept (fresh opening) m 0 0 e

  pub started-more : (kept more : List (List ℕ)) (m : Member) → started r opening kept ≡ Ok m → records_read (kept ++ more) ≡ records_read kept ++ records_read more
  unfolding started
  started-more kept more m e = read-started r kept more (fresh opening) m 0 e

  pub started-state : (kept : List (List ℕ)) (m : Member) → started r opening kept ≡ Ok m → state r opening (records_read kept) ≡ m
  unfolding started state
  started-state kept m e = folded r (records_read kept) (fresh opening) m 0 (replayed-at r kept (fresh opening) m 0 0 e)

  -- ---- the calls after it

  step-state : (before : List Record) (x : Option Record) → state r opening (appended before x) ≡ after_due r (state r opening before) x
  step-state before None = refl
  step-state before (Some x) = state-push r opening before x

  step-list : (before : List Record) (x : Option Record) (more : List Record) → appended before x ++ more ≡ before ++ (list_of x ++ more)
  step-list before None more = refl
  step-list before (Some x) more = append_assoc before (x ∷ []) more

  pub after-calls : (calls : List Call) (before : List Record) → records_after r opening before calls ≡ before ++ dues r (state r opening before) calls
  after-calls [] before = sym (append-nil before)
  after-calls (call ∷ calls) before =
      let x = due r (state r opening before) call in
      after-calls calls (appended before x)
      ∙ step-list before x (dues r (state r opening (appended before x)) calls)
      ∙ ap (λ (n : Member). before ++ (list_of x ++ dues r n calls)) (step-state before x)
