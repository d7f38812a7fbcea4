-- A call on one member among the others.
use Rattle.std.proofs.Common.{◌≡◌, ℕ, ◌<◌, List, length, get_or, set, Option, Some, sym, ap, refl, ◌∙◌, subst}
use Rattle.std.specs.Prelude.{Bool, Result, Ok, Err, IfOk, IsErrOf, is_some, slice_get, true}
use Rattle.std.proofs.lemmas.Option.{slice_get_read}
use Rattle.outside.specs.Lists.{Journals}
use Rattle.protocol_spec.specs.Chain.Certificates.{Rules}
use Rattle.protocol_spec.specs.Member.Calls.{Call}
use Rattle.protocol_spec.specs.Member.Member.{Member}
use Rattle.world_spec.specs.Terms.{Terms}
use Rattle.world_spec.specs.Posts.{Post, posts_with, reached_in, reached_post, record_left}
use Rattle.world_spec.specs.SceneSteps.{standing_at}
use Rattle.world_core.specs.declared.reply.Reply.{Reply}
use Rattle.world_core.specs.declared.reply.SeatFault.{SeatFault}
use Rattle.world_core.specs.declared.reply.SeatFault.TheVariants as faults
use Rattle.world_core.specs.Crews.{IsAble, IsPlaced, PostAfter, PostsAfter, fallen}
use Rattle.world_core.specs.Replies.{Leaves, Replies}
use Rattle.world_core.specs.Served.{Served}
use Rattle.protocol_spec.proofs.ListLemmas.{set_length}
use Rattle.world_core.proofs.Placing.{AreWhole, changed_is, post_honest, post_placed, whole_with}

-- ---- after the call

after_placed : {A E : Type 0} (terms : Terms) (m : ℕ) (r : Rules) (call : Call) (old p : Post) (result : Result A E) → IsPlaced terms m old.standing → PostAfter r call old p result → IsPlaced terms m p.standing
after_placed terms m r call old p (Ok a) placed e = subst (λ (q : Post). IsPlaced terms m q.standing) (sym e) (post_placed terms m r call old (reached_post r call (Some old)) placed)
after_placed terms m r call old p (Err f) placed e = subst (λ (q : Post). IsPlaced terms m q.standing) (sym e) tt

after_honest : {A E : Type 0} (r : Rules) (call : Call) (old p : Post) (result : Result A E) → PostAfter r call old p result → p.honest ≡ old.honest
after_honest r call old p (Ok a) e = ap (λ (q : Post). q.honest) e ∙ post_honest r call old (reached_post r call (Some old))
after_honest r call old p (Err f) e = ap (λ (q : Post). q.honest) e

pub whole_after : {A E : Type 0} (terms : Terms) (flags : List Bool) (posts : List Post) (n m : ℕ) (r : Rules) (call : Call) (old p : Post) (result : Result A E) → n ≡ length posts → m < n → old ≡ get_or posts m old → AreWhole terms flags posts
    → IsPlaced terms m old.standing → PostAfter r call old p result → AreWhole terms flags (set posts m p)
whole_after terms flags posts n m r call old p result count low is whole placed e =
    whole_with terms flags posts n m old p count low is whole (after_placed terms m r call old p result placed e) (after_honest r call old p result e)

pub posts_after : {A E : Type 0} (posts : List Post) (n m : ℕ) (r : Rules) (call : Call) (old p : Post) (result : Result A E) → n ≡ length posts → m < n → old ≡ get_or posts m old → PostAfter r call old p result → PostsAfter r call m posts (set posts m p) result
posts_after posts n m r call old p (Ok a) count low is e = ap (set posts m) e ∙ ap (posts_with r call posts m) (sym (slice_get_read posts n m old count low is))
posts_after posts n m r call old p (Err f) count low is e = changed_is fallen posts n m old p count low is e

-- ---- what is said of it

pub said_in : {A E : Type 0} (Says : Member → A → Type 0) (posts : List Post) (n m : ℕ) (r : Rules) (call : Call) (old : Post) (result : Result (Reply A) E) → n ≡ length posts → m < n → old ≡ get_or posts m old
    → IfOk result (Replies Says (reached_post r call (Some old))) → IfOk result (Replies Says (reached_in r posts m call))
said_in Says posts n m r call old result count low is h = subst (λ (o : Option Post). IfOk result (Replies Says (reached_post r call o))) (sym (slice_get_read posts n m old count low is)) h

pub left_in : {A E : Type 0} (before now : Option Journals) (posts : List Post) (n m : ℕ) (r : Rules) (call : Call) (old : Post) (result : Result A E) → n ≡ length posts → m < n → old ≡ get_or posts m old
    → Leaves before now m (record_left (reached_post r call (Some old))) result → Leaves before now m (record_left (reached_in r posts m call)) result
left_in before now posts n m r call old result count low is h = subst (λ (o : Option Post). Leaves before now m (record_left (reached_post r call o)) result) (sym (slice_get_read posts n m old count low is)) h

-- ---- when a fault comes

pub owed_in : {A : Type 0} (posts : List Post) (n m : ℕ) (r : Rules) (call : Call) (old : Post) (result : Result A SeatFault) → n ≡ length posts → m < n → old ≡ get_or posts m old
    → (IsErrOf result faults.KeepFault → is_some (record_left (reached_post r call (Some old))) ≡ true) → IsErrOf result faults.KeepFault → is_some (record_left (reached_in r posts m call)) ≡ true
owed_in posts n m r call old result count low is h fault = subst (λ (o : Option Post). is_some (record_left (reached_post r call o)) ≡ true) (sym (slice_get_read posts n m old count low is)) (h fault)

pub able_in : {A : Type 0} (posts : List Post) (n m : ℕ) (old : Post) (result : Result A SeatFault) → n ≡ length posts → m < n → old ≡ get_or posts m old
    → (IsErrOf result faults.OutOfMemory → IsAble old.standing) → IsErrOf result faults.OutOfMemory → IsAble (standing_at (slice_get posts m))
able_in posts n m old result count low is h fault = subst (λ (o : Option Post). IsAble (standing_at o)) (sym (slice_get_read posts n m old count low is)) (h fault)

-- ---- all of it

pub served_in : {A : Type 0} (Says : Member → A → Type 0) (terms : Terms) (posts : List Post) (n m : ℕ) (r : Rules) (call : Call) (old p : Post) (before now : Option Journals) (result : Result (Reply A) SeatFault) → n ≡ length posts → m < n → old ≡ get_or posts m old
    → IfOk result (Replies Says (reached_post r call (Some old))) → PostAfter r call old p result → Leaves before now m (record_left (reached_post r call (Some old))) result
    → (IsErrOf result faults.KeepFault → is_some (record_left (reached_post r call (Some old))) ≡ true) → (IsErrOf result faults.OutOfMemory → IsAble old.standing)
    → Served Says r call m (record { terms = terms; posts = posts }) (record { terms = terms; posts = set posts m p }) before now result
served_in Says terms posts n m r call old p before now result count low is answer post kept owed able = record {
  answer = said_in Says posts n m r call old result count low is answer;
  posts = posts_after posts n m r call old p result count low is post;
  terms = refl;
  many = set_length posts m p;
  kept = left_in before now posts n m r call old result count low is kept;
  owed = owed_in posts n m r call old result count low is owed;
  able = able_in posts n m old result count low is able;
}
