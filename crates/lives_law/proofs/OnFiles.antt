-- The lives of the processes of a member on one file.
use Rattle.std.proofs.Common.{inl, inr, refl, sym, subst, ap, ◌∙◌, append_assoc}
use Rattle.std.specs.Prelude.{◌≡◌, ◌⊎◌, ℕ, List, [], ◌∷◌, ◌++◌}
use Rattle.std.specs.List.{flat_map}
use Rattle.disk_log.specs.Disk.{History, IsQuiet}
use Rattle.disk_log.proofs.Moments.{settled-image}
use Rattle.chain_types.specs.declared.objects.Object.{Object}
use Rattle.journal_core.specs.declared.records.Record.{Record}
use Rattle.protocol_spec.proofs.ListLemmas.{front_then, front_whole}
use Rattle.protocol_spec.specs.Chain.Words.{Each, IsFront}
use Rattle.protocol_spec.specs.Chain.Certificates.{Rules}
use Rattle.protocol_spec.specs.Member.Member.{Member}
use Rattle.protocol_spec.specs.Member.Calls.{Call}
use Rattle.world_spec.specs.SceneWorlds.{spelled}
use Rattle.lives_law.specs.Lives.{NothingIsTakenBack, records_after}
use Rattle.lives_law.specs.Files.{AreLivesOf, AreRunsOn, Follows, IsIdleOn, IsLeft, IsLifeOn, IsReadBack, Run, dues, kept_of, records_of, records_read}
use Rattle.lives_law.proofs.Along.{replayed-sound}
use Rattle.lives_law.proofs.Back.{dues-back}
use Rattle.lives_law.proofs.Fitting.{fit-sound}
use Rattle.lives_law.proofs.Reading.{after-calls, read-front, read-spelled, started-more, started-replayed, started-state}
use Rattle.lives_law.proofs.Standing.{nothing-back}

front-read : (xs ys : List (List ℕ)) → IsFront xs ys → IsFront (records_read xs) (records_read ys)
front-read xs ys (more, e) = subst (λ (l : List (List ℕ)). IsFront (records_read xs) (records_read l)) (sym e) (read-front xs more)

module _ (r : Rules) (opening : List Object) (width m : ℕ) where
  -- each file that is left has these records first
  abbrev Leaves : History → List Record → Type 0
  Leaves h records = (file : List ℕ) → IsLeft h file → IsFront records (records_of width m file)

  quiet-leaves : (h : History) (records : List Record) → IsQuiet h → IsFront records (records_of width m h.now.reads) → Leaves h records
  quiet-leaves h records quiet front file (inl e) = subst (λ (f : List ℕ). IsFront records (records_of width m f)) (sym e) front
  quiet-leaves h records quiet front file (inr image) = subst (λ (f : List ℕ). IsFront records (records_of width m f)) (sym (settled-image h.now h.now.reads quiet file image)) front

  follows : (h next : History) (records : List Record) → Leaves h records → Follows h next → Leaves next records
  follows h next records leaves (inl same) = subst (λ (x : History). Leaves x records) (sym same) leaves
  follows h next records leaves (inr after) = quiet-leaves next records after.1 (leaves next.now.reads after.0)

  -- ---- one process

  idle-leaves : (run : Run) (records : List Record) → IsIdleOn r opening width m run → Leaves run.first records → Leaves run.last records
  idle-leaves run records idle leaves file left =
      let old = idle.leaves file left in
      front_then records (records_of width m old.0) (records_of width m file) (leaves old.0 old.1) (front-read (kept_of width m old.0) (kept_of width m file) old.2)

  module _ (run : Run) (life : IsLifeOn r opening width m run) where
    abbrev kept : List (List ℕ)
    kept = kept_of width m run.first.now.reads

    abbrev start : List Record
    start = records_read kept

    abbrev left : List Record
    left = dues r life.member run.calls

    read-back : Each IsReadBack left
    read-back =
        let sound = replayed-sound r opening start life.member (started-replayed r opening kept life.member life.starts) in
        subst (λ (n : Member). Each IsReadBack (dues r n run.calls)) (started-state r opening kept life.member life.starts) (dues-back r opening run.calls start (fit-sound r opening start sound) life.readable)

    own-records : records_after r opening start run.calls ≡ start ++ left
    own-records = after-calls r opening run.calls start ∙ ap (λ (n : Member). start ++ dues r n run.calls) (started-state r opening kept life.member life.starts)

    read-left : (more : List (List ℕ)) → records_read ((kept ++ spelled left) ++ more) ≡ (start ++ left) ++ records_read more
    read-left more =
        ap (λ (l : List (List ℕ)). records_read l) (append_assoc kept (spelled left) more)
        ∙ started-more r opening kept (spelled left ++ more) life.member life.starts
        ∙ ap (λ (l : List Record). start ++ l) (read-spelled left more read-back)
        ∙ sym (append_assoc start left (records_read more))

    life-leaves : Leaves run.last (records_after r opening start run.calls)
    life-leaves file is =
        let front = life.leaves file is in
        (records_read front.0, ap (λ (l : List (List ℕ)). records_read l) front.1 ∙ read-left front.0 ∙ ap (λ (l : List Record). l ++ records_read front.0) (sym own-records))

  -- ---- one after the other

  abbrev calls_in : List Run → List Call
  calls_in runs = flat_map (λ (run : Run). run.calls) runs

  lived-more : (run : Run) (runs : List Run) (file : List ℕ) (records : List Record) (life : IsLifeOn r opening width m run) → Leaves run.first records
      → AreLivesOf r opening width m (records_after r opening (records_of width m run.first.now.reads) run.calls) runs file → AreLivesOf r opening width m records (run ∷ runs) file
  lived-more run runs file records life leaves rest = record {
    start = start run life;
    lives = record { start = start run life; calls = run.calls; last = rest.start } ∷ rest.lives;
    from = leaves run.first.now.reads (inl refl);
    are = (refl, inl (record { member = life.member; starts = started-replayed r opening (kept run life) life.member life.starts; leaves = rest.from }), rest.are);
    calls = ap (λ (l : List Call). run.calls ++ l) rest.calls;
    last = rest.last;
  }

  idle-more : (run : Run) (runs : List Run) (file : List ℕ) (records : List Record) → IsIdleOn r opening width m run → AreLivesOf r opening width m records runs file → AreLivesOf r opening width m records (run ∷ runs) file
  idle-more run runs file records idle rest = record {
    start = rest.start;
    lives = rest.lives;
    from = rest.from;
    are = rest.are;
    calls = rest.calls ∙ ap (λ (l : List Call). l ++ calls_in runs) (sym idle.calls);
    last = rest.last;
  }

  all-lives : (runs : List Run) (h : History) (file : List ℕ) (records : List Record) → Leaves h records → AreRunsOn r opening width m h runs file → AreLivesOf r opening width m records runs file
  all-lives [] h file records leaves are = record { start = records_of width m file; lives = []; from = leaves file are; are = tt; calls = refl; last = refl }
  all-lives (run ∷ runs) h file records leaves are = go are.1 (λ those left. all-lives runs run.last file those left are.2)
    where
      first : Leaves run.first records
      first = follows h run.first records leaves are.0

      go : IsLifeOn r opening width m run ⊎ IsIdleOn r opening width m run → ((those : List Record) → Leaves run.last those → AreLivesOf r opening width m those runs file)
          → AreLivesOf r opening width m records (run ∷ runs) file
      go (inl life) more = lived-more run runs file records life first (more (records_after r opening (records_of width m run.first.now.reads) run.calls) (life-leaves run life))
      go (inr idle) more = idle-more run runs file records idle (more records (idle-leaves run records idle first))

  pub files-live : (h : History) (runs : List Run) (file : List ℕ) → IsQuiet h → AreRunsOn r opening width m h runs file
      → (l : AreLivesOf r opening width m (records_of width m h.now.reads) runs file) × NothingIsTakenBack r opening l.lives (records_of width m file)
  files-live h runs file quiet are =
      let first = records_of width m h.now.reads in
      let l = all-lives runs h file first (quiet-leaves h first quiet (front_whole first)) are in
      (l, subst (λ (last : List Record). NothingIsTakenBack r opening l.lives last) l.last (nothing-back r opening l.start l.lives l.are))
