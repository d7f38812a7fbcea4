-- What stands after a line that did not come to its end, in each of its ways.
use Rattle.std.proofs.Common.{◌≡◌, inl, inr, ◌∙◌, ap, sym, refl, subst, ℕ, true, false, List, length, Option, Some, None, Result, Ok, Err, OnErr, arith}
use Rattle.outside.specs.Lists.{Journals, KeepsJournals}
use Rattle.protocol_spec.specs.Chain.Certificates.{Rules}
use Rattle.protocol_spec.specs.Member.Calls.{Call, sees}
use Rattle.world_spec.specs.Setting.{Trust}
use Rattle.world_spec.specs.World.{Said}
use Rattle.world_spec.specs.Terms.{Terms}
use Rattle.world_spec.specs.Posts.{AddsAll, AddsLeft, MayAddLeft, Post, posts_behind, reached_in, record_left}
use Rattle.world_spec.specs.Scene.{Scene, rules_in}
use Rattle.world_spec.specs.SceneSteps.{Work, asks, hands, idle, next_on, sees_left, sees_to}
use Rattle.world_core.specs.Crews.{fallen_at}
use Rattle.world_core.specs.Cuts.{Books, CallCut, EntriesCut, SeenCut, LineCut, NextCut, Still, books_in, ended, fell, still_in, unmade}
use Rattle.schedule_text.specs.declared.words.Event.{Event}
use Rattle.world_core.specs.Kept.{is_quiet}
use Rattle.world_core.specs.Sees.{next_by}
use Rattle.world_core.proofs.Nexts.{next_is}
use Rattle.world_core.proofs.Seeing.{adds_none}
use Rattle.validator_core.proofs.Settling.{keeps_same}

pub on_err : {A E : Type 0} (P : Type 0) (result : Result A E) → P → OnErr result P
on_err P (Ok a) p = tt
on_err P (Err e) p = p

-- ---- a call

pub call_unmade : (r : Rules) (m : ℕ) (call : Call) (posts : List Post) (told : Option Journals) → CallCut r m call posts posts told told
call_unmade r m call posts told = record { outcome = unmade; posts = refl; lists = keeps_same told }

pub call_fell : (r : Rules) (m : ℕ) (call : Call) (old new : List Post) (before now : Option Journals) → new ≡ fallen_at old m → MayAddLeft before now m (record_left (reached_in r old m call)) → CallCut r m call old new before now
call_fell r m call old new before now is adds = record { outcome = fell; posts = is; lists = adds }

pub call_ended : (r : Rules) (m : ℕ) (call : Call) (old new : List Post) (before now : Option Journals) → new ≡ posts_behind r old m call → AddsLeft before now m (record_left (reached_in r old m call)) → CallCut r m call old new before now
call_ended r m call old new before now is adds = record { outcome = ended; posts = is; lists = adds }

-- ---- what is seen of a world

abbrev books_with : Scene → Terms → ℕ → Books
books_with v terms many = record { many = many; terms = terms; opening = v.opening; known = v.known; sequences = v.sequences; epoch = v.epoch; certs = v.certs }

-- members that change, and nothing else that others see
pub books_seen : (v sc : Scene) (terms : Terms) (posts : List Post) (said : List Said) → v ≡ sc → terms ≡ v.terms → length posts ≡ length v.posts → books_in (record v { terms = terms; said = said; posts = posts }) ≡ books_in sc
books_seen v sc terms posts said view same many =
    ap (λ (n : ℕ). books_with v terms n) many ∙ ap (λ (t : Terms). books_with v t (length v.posts)) same ∙ ap (λ (x : Scene). books_in x) view

-- ---- nothing was done

pub next_unmade : (r : Rules) (sc : Scene) (m : ℕ) (call : Option Call) (told : Option Journals) → NextCut r sc m call sc.posts told told
next_unmade r sc m None told = record { posts = refl; lists = keeps_same told }
next_unmade r sc m (Some call) told = call_unmade r m call sc.posts told

pub unmade_line : (r : Rules) (sc : Scene) (work : Work) (told : Option Journals) → LineCut r sc work sc.posts told told
unmade_line r sc idle told = record { posts = refl; lists = keeps_same told }
unmade_line r sc (asks m call) told = call_unmade r m call sc.posts told
unmade_line r sc (hands m n) told = record { taken = 0; few = omega arith; told = told; adds = adds_none told m; next = next_unmade r sc m (next_on sc m) told }

pub unmade_line_on : {A E : Type 0} (r : Rules) (sc : Scene) (work : Work) (told : Option Journals) (result : Result A E) → OnErr result (LineCut r sc work sc.posts told told)
unmade_line_on r sc work told result = on_err (LineCut r sc work sc.posts told told) result (unmade_line r sc work told)

-- all but the members, whether or not the line was to order an End
pub same_books : (trust : Trust) (old new : Scene) (m : Option ℕ) → books_in new ≡ books_in old → SeenCut books_in trust old m new
same_books trust old new None same = same
same_books trust old new (Some m) same = inl same

pub still_books : (trust : Trust) (old new : Scene) (m : Option ℕ) → SeenCut still_in trust old m new → SeenCut books_in trust old m new
still_books trust old new None same = ap (λ (x : Still). x.books) same
still_books trust old new (Some m) (inl same) = inl (ap (λ (x : Still). x.books) same)
still_books trust old new (Some m) (inr more) = inr (ap (λ (x : Still). x.books) more)

-- no member changed if all but what was stated is as before
pub still_posts : (trust : Trust) (old new : Scene) (m : Option ℕ) → SeenCut still_in trust old m new → new.posts ≡ old.posts
still_posts trust old new None same = ap (λ (x : Still). x.posts) same
still_posts trust old new (Some m) (inl same) = ap (λ (x : Still). x.posts) same
still_posts trust old new (Some m) (inr more) = ap (λ (x : Still). x.posts) more

-- a line that touches no record
pub quiet_line : (trust : Trust) (r : Rules) (sc new : Scene) (m : Option ℕ) (work : Work) (told : Option Journals) → SeenCut still_in trust sc m new → LineCut r sc work new.posts told told
quiet_line trust r sc new m work told same = subst (λ (posts : List Post). LineCut r sc work posts told told) (sym (still_posts trust sc new m same)) (unmade_line r sc work told)

-- a line that may keep a record is not quiet, so a claim about quiet lines says nothing of it
pub loud_posts : (old new : Scene) (e : Event) → is_quiet e ≡ false → is_quiet e ≡ true → new.posts ≡ old.posts
loud_posts old new e loud quiet = absurd (cc)

-- a start
pub start_posts : {A E : Type 0} (sc new : Scene) (e : Event) (result : Result A E) → OnErr result (new ≡ sc) → OnErr result (is_quiet e ≡ true → new.posts ≡ sc.posts)
start_posts sc new e (Ok a) same = tt
start_posts sc new e (Err x) same = λ (_ : is_quiet e ≡ true). ap (λ (y : Scene). y.posts) same

pub idle_line_on : {A E : Type 0} (r : Rules) (sc new : Scene) (before now : Option Journals) (result : Result A E) → OnErr result (new ≡ sc) → KeepsJournals before now → OnErr result (LineCut r sc idle new.posts before now)
idle_line_on r sc new before now (Ok a) same keeps = tt
idle_line_on r sc new before now (Err e) same keeps = record { posts = ap (λ (x : Scene). x.posts) same; lists = keeps }

-- ---- entries

-- the next entry, by what is seen of it
pub next_cut : {A E : Type 0} (trust : Trust) (v sc : Scene) (m number : ℕ) (bytes : List ℕ) (view : v ≡ sc) (next : Some (sees number bytes) ≡ next_by v.posts v.sequences m) (result : Result A E) (new : List Post) (before now : Option Journals)
    → OnErr result (CallCut (rules_in trust.accepts v) m (sees number bytes) v.posts new before now) → OnErr result (NextCut (rules_in trust.accepts sc) sc m (next_on sc m) new before now)
next_cut trust v sc m number bytes view next (Ok a) new before now is = tt
next_cut trust v sc m number bytes view next (Err e) new before now is =
    subst (λ (c : Option Call). NextCut (rules_in trust.accepts sc) sc m c new before now) (sym next_in)
    (subst (λ (x : Scene). CallCut (rules_in trust.accepts x) m (sees number bytes) x.posts new before now) view is)
  where
    next_in : next_on sc m ≡ Some (sees number bytes)
    next_in = ap (λ (x : Scene). next_on x m) (sym view) ∙ sym (next_is v m) ∙ sym next

-- all were handed in
pub entries_ended : (r : Rules) (sc new : Scene) (m n : ℕ) (before now : Option Journals) → new ≡ sees_to r n sc m → AddsAll before now m (sees_left r n sc m) → EntriesCut r m n sc new.posts before now
entries_ended r sc new m n before now is adds = record {
  taken = n;
  few = omega arith;
  told = now;
  adds = adds;
  next = subst (λ (posts : List Post). NextCut r (sees_to r n sc m) m (next_on (sees_to r n sc m) m) posts now now) (sym (ap (λ (x : Scene). x.posts) is)) (next_unmade r (sees_to r n sc m) m (next_on (sees_to r n sc m) m) now);
}
