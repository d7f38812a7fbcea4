-- What is said of answers in a world is what is said by what is known in it.
use Rattle.std.proofs.Common.{◌≡◌, ◌∙◌, ap, refl, ℕ, Bool, true, false, List, ◌∷◌, ◌++◌, length, map, Option, Some, None, Result, Ok, Err}
use Rattle.digest_core.specs.declared.Digest.{Digest}
use Rattle.chain_types.specs.declared.objects.ObjectKey.{ObjectKey}
use Rattle.chain_types.specs.declared.objects.Object.{Object}
use Rattle.chain_types.specs.declared.objects.Owner.{Owner}
use Rattle.chain_types.specs.declared.objects.Owner.TheVariants as owner
use Rattle.chain_types.specs.declared.objects.Content.{Content}
use Rattle.chain_types.specs.declared.objects.Content.TheVariants as content
use Rattle.chain_messages.specs.declared.messages.Statement.{Statement}
use Rattle.chain_messages.specs.declared.messages.Statement.TheVariants as statement
use Rattle.protocol_spec.specs.declared.answers.Left.{Left}
use Rattle.protocol_spec.specs.declared.answers.Ran.{Ran}
use Rattle.protocol_spec.specs.declared.answers.Seen.{Seen}
use Rattle.protocol_spec.specs.declared.answers.SeenWhat.{SeenWhat}
use Rattle.protocol_spec.specs.declared.answers.SeenWhat.TheVariants as seen_as
use Rattle.protocol_spec.specs.declared.refusals.SeeRefusal.{SeeRefusal}
use Rattle.protocol_spec.specs.declared.refusals.SeeRefusal.TheVariants as no_see
use Rattle.protocol_spec.specs.declared.refusals.CloseRefusal.{CloseRefusal}
use Rattle.protocol_spec.specs.declared.refusals.CloseRefusal.TheVariants as no_close
use Rattle.protocol_spec.specs.declared.refusals.EndRefusal.{EndRefusal}
use Rattle.protocol_spec.specs.declared.refusals.EndRefusal.TheVariants as no_end
use Rattle.protocol_spec.specs.declared.refusals.TurnRefusal.{TurnRefusal}
use Rattle.protocol_spec.specs.declared.refusals.TurnRefusal.TheVariants as no_turn
use Rattle.protocol_spec.specs.declared.refusals.AckRefusal.{AckRefusal}
use Rattle.protocol_spec.specs.declared.refusals.AckRefusal.TheVariants as no_ack
use Rattle.protocol_spec.specs.declared.refusals.VoteRefusal.{VoteRefusal}
use Rattle.protocol_spec.specs.declared.refusals.VoteRefusal.TheVariants as no_vote
use Rattle.protocol_spec.specs.declared.refusals.HoldRefusal.{HoldRefusal}
use Rattle.protocol_spec.specs.declared.refusals.HoldRefusal.TheVariants as no_hold
use Rattle.protocol_spec.specs.declared.refusals.RunRefusal.{RunRefusal}
use Rattle.protocol_spec.specs.declared.refusals.RunRefusal.TheVariants as no_run
use Rattle.protocol_spec.specs.Member.Member.{Member}
use Rattle.protocol_spec.specs.Member.Calls.{Voted}
use Rattle.report_text.specs.declared.lines.Line.{Line}
use Rattle.report_text.specs.declared.lines.Line.TheVariants as line
use Rattle.report_text.specs.declared.lines.EntryText.{EntryText}
use Rattle.report_text.specs.declared.lines.OwnerText.{OwnerText}
use Rattle.report_text.specs.declared.lines.ContentText.{ContentText}
use Rattle.report_text.specs.declared.lines.RunText.TheVariants as run_text
use Rattle.report_text.specs.declared.lines.ShowText.TheVariants as show_text
use Rattle.world_spec.specs.Setting.{Setting}
use Rattle.world_spec.specs.World.{World, WorldOf}
use Rattle.world_spec.specs.Names.{object_name, shown_order}
use Rattle.world_spec.specs.Report.{Lines, ack_answered, checkpoint_lines, close_answered, effects_line, end_answered, entry_lines, hold_answered, left_line_of, object_line, run_answered, shown, shown_content, shown_owner, turn_answered, vote_answered, voted_text, what_text}
use Rattle.world_spec.specs.Known.{names_of, setting_staked, setting_with, world_with}

module _ {S : Type 0} (s : Setting) (w : WorldOf S) where
  abbrev t : Setting
  t = setting_with (names_of s w)

  abbrev v : World
  v = world_with (names_of s w)

  voted_same : (fresh : Bool) (st : Statement) → voted_text w fresh st ≡ voted_text v fresh st
  voted_same true (statement.Vote epoch tx origins) = refl
  voted_same false (statement.Vote epoch tx origins) = refl
  voted_same true (statement.End epoch) = refl
  voted_same false (statement.End epoch) = refl
  voted_same true (statement.Checkpoint epoch number digest) = refl
  voted_same false (statement.Checkpoint epoch number digest) = refl
  voted_same true (statement.Ack epoch tx effects) = refl
  voted_same false (statement.Ack epoch tx effects) = refl

  pub vote_same : (answer : Result Voted VoteRefusal) → vote_answered s w answer ≡ vote_answered t v answer
  vote_same (Ok x) = voted_same x.fresh x.statement
  vote_same (Err no_vote.Down) = refl
  vote_same (Err (no_vote.Halted first second)) = refl
  vote_same (Err no_vote.Full) = refl
  vote_same (Err (no_vote.Malformed fault)) = refl
  vote_same (Err (no_vote.WrongEpoch had want)) = refl
  vote_same (Err no_vote.Closed) = refl
  vote_same (Err (no_vote.Invalid n)) = refl
  vote_same (Err no_vote.Unsealed) = refl
  vote_same (Err (no_vote.Absent key)) = refl
  vote_same (Err (no_vote.Consumed key by)) = refl
  vote_same (Err (no_vote.WrongDigest key)) = refl
  vote_same (Err (no_vote.WrongOwner key)) = refl
  vote_same (Err (no_vote.WrongKind key)) = refl
  vote_same (Err (no_vote.PoorGas had want)) = refl
  vote_same (Err (no_vote.Locked key by)) = refl
  vote_same (Err no_vote.KeepFault) = refl
  vote_same (Err no_vote.OutOfMemory) = refl

  pub hold_same : (answer : Result Bool HoldRefusal) → hold_answered s w answer ≡ hold_answered t v answer
  hold_same (Ok true) = refl
  hold_same (Ok false) = refl
  hold_same (Err no_hold.Down) = refl
  hold_same (Err (no_hold.Halted first second)) = refl
  hold_same (Err no_hold.Full) = refl
  hold_same (Err (no_hold.Malformed fault)) = refl
  hold_same (Err (no_hold.WrongEpoch had want)) = refl
  hold_same (Err no_hold.Closed) = refl
  hold_same (Err (no_hold.Cert refusal)) = refl
  hold_same (Err no_hold.KeepFault) = refl
  hold_same (Err (no_hold.Fork key first second)) = refl
  hold_same (Err no_hold.OutOfMemory) = refl

  left_same : (tx : Digest) (key : Option ObjectKey) → left_line_of s w tx key ≡ left_line_of t v tx key
  left_same tx (Some key) = refl
  left_same tx None = refl

  abbrev ran_with : ℕ → Ran → (Left → Line) → List Line
  ran_with m ran left = line.Run m (run_text.Executed (length ran.executed)) ∷ (map (effects_line w) ran.executed ++ (map left ran.left ++ checkpoint_lines w ran.built))

  pub run_same : (m : ℕ) (answer : Result Ran RunRefusal) → run_answered s w m answer ≡ run_answered t v m answer
  run_same m (Ok ran) = ap (ran_with m ran) (λ i l. left_same l.tx l.key i)
  run_same m (Err no_run.Down) = refl
  run_same m (Err (no_run.Halted first second)) = refl
  run_same m (Err no_run.Full) = refl
  run_same m (Err no_run.KeepFault) = refl
  run_same m (Err no_run.OutOfMemory) = refl

  -- ---- entries, which need the stakes too

  abbrev u : Setting
  u = setting_staked s.rules.stakes (names_of s w)

  what_same : (what : SeenWhat) → what_text s w what ≡ what_text u v what
  what_same (seen_as.Taken admitted dropped) = refl
  what_same (seen_as.Pending tx origin) = refl
  what_same (seen_as.Deferred tx id) = refl
  what_same (seen_as.Commit admitted dropped) = refl
  what_same (seen_as.Counted m weight) = refl
  what_same (seen_as.Ended m weight) = refl
  what_same (seen_as.Ignored cause) = refl

  abbrev lines_as : ℕ → ℕ → Seen → EntryText → Lines
  lines_as m number seen text = (line.SeeEntry m number text ∷ checkpoint_lines v seen.built, true)

  pub see_same : (m number : ℕ) (answer : Result Seen SeeRefusal) → entry_lines s w m number answer ≡ entry_lines u v m number answer
  see_same m number (Ok seen) = ap (lines_as m number seen) (what_same seen.what)
  see_same m number (Err no_see.Down) = refl
  see_same m number (Err (no_see.Halted first second)) = refl
  see_same m number (Err no_see.Full) = refl
  see_same m number (Err no_see.Over) = refl
  see_same m number (Err (no_see.Gap had want)) = refl
  see_same m number (Err no_see.KeepFault) = refl
  see_same m number (Err (no_see.Fork key first second)) = refl
  see_same m number (Err no_see.OutOfMemory) = refl

  -- ---- close, end, turn, ack

  pub close_same : (answer : Result Bool CloseRefusal) → close_answered w answer ≡ close_answered v answer
  close_same (Ok true) = refl
  close_same (Ok false) = refl
  close_same (Err no_close.Down) = refl
  close_same (Err (no_close.Halted first second)) = refl
  close_same (Err no_close.Full) = refl
  close_same (Err no_close.KeepFault) = refl
  close_same (Err no_close.OutOfMemory) = refl

  pub end_same : (answer : Result Statement EndRefusal) → end_answered w answer ≡ end_answered v answer
  end_same (Ok st) = refl
  end_same (Err no_end.Down) = refl
  end_same (Err (no_end.Halted first second)) = refl
  end_same (Err no_end.NotClosed) = refl
  end_same (Err (no_end.Waits tx)) = refl
  end_same (Err no_end.OutOfMemory) = refl

  pub turn_same : (m : ℕ) (before : Member) (answer : Result (List Digest) TurnRefusal) → turn_answered w m before answer ≡ turn_answered v m before answer
  turn_same m before (Ok txs) = refl
  turn_same m before (Err no_turn.Down) = refl
  turn_same m before (Err (no_turn.Halted first second)) = refl
  turn_same m before (Err no_turn.Full) = refl
  turn_same m before (Err no_turn.NotEnded) = refl
  turn_same m before (Err (no_turn.Waits tx)) = refl
  turn_same m before (Err no_turn.KeepFault) = refl
  turn_same m before (Err no_turn.OutOfMemory) = refl

  pub ack_same : (answer : Result Statement AckRefusal) → ack_answered w answer ≡ ack_answered v answer
  ack_same (Ok st) = refl
  ack_same (Err no_ack.Down) = refl
  ack_same (Err (no_ack.Halted first second)) = refl
  ack_same (Err no_ack.NotExecuted) = refl
  ack_same (Err no_ack.OutOfMemory) = refl

  owner_same : (o : Owner) → shown_owner w o ≡ shown_owner v o
  owner_same (owner.Address a) = refl
  owner_same (owner.Shared initial) = refl
  owner_same owner.Immutable = refl

  content_same : (c : Content) → shown_content s w c ≡ shown_content t v c
  content_same (content.Coin currency balance) = refl
  content_same (content.Cap currency supply) = refl
  content_same (content.Counter value) = refl
  content_same (content.Vault currency balance) = refl
  content_same (content.VaultKey vault) = refl
  content_same (content.Limit value) = refl

  object_same : (o : Object) → object_line s w o ≡ object_line t v o
  object_same o =
      ap (λ (x : OwnerText). line.Object (object_name s w o.id) o.version x (shown_content s w o.content)) (owner_same o.owner)
      ∙ ap (λ (x : ContentText). line.Object (object_name s w o.id) o.version (shown_owner v o.owner) x) (content_same o.content)

  abbrev shown_with : ℕ → ℕ → List Object → (Object → Line) → List Line
  shown_with m epoch objects says = line.Show m (show_text.Shown epoch (length objects)) ∷ map says (shown_order s w objects)

  pub shown_same : (m epoch : ℕ) (objects : List Object) → shown s w m epoch objects ≡ shown t v m epoch objects
  shown_same m epoch objects = ap (shown_with m epoch objects) (λ i o. object_same o i)
