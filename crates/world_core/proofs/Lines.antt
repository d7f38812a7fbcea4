-- A line that names a transaction or a certificate, by what is encoded.
use Rattle.std.proofs.Common.{◌≡◌, ◌∙◌, ap, refl, sym, ℕ, List, [], ◌∷◌, Option, Some, None, Result, Ok, Err, option_map, append-nil, inl, inr}
use Rattle.outside.specs.Lists.{Journals}
use Rattle.chain_messages.specs.declared.messages.Certificate.{Certificate}
use Rattle.protocol_spec.specs.Chain.Certificates.{Rules}
use Rattle.protocol_spec.specs.Member.Calls.{Call}
use Rattle.report_text.specs.declared.lines.Line.{Line}
use Rattle.report_text.specs.declared.lines.Line.TheVariants as line
use Rattle.report_text.specs.declared.lines.SendText.{SendText}
use Rattle.report_text.specs.declared.lines.SendText.TheVariants as send_text
use Rattle.report_text.specs.declared.lines.VoteText.{VoteText}
use Rattle.report_text.specs.declared.lines.VoteText.TheVariants as vote_text
use Rattle.world_spec.specs.Setting.{Name, Trust}
use Rattle.world_spec.specs.World.{Made}
use Rattle.journal_core.specs.declared.records.Record.{Record}
use Rattle.world_spec.specs.Posts.{AddsAll, AddsFront, AddsLeft, MayAddLeft, list_of, reached_in, record_left}
use Rattle.world_spec.specs.Scene.{Scene}
use Rattle.world_spec.specs.SceneSteps.{asks}
use Rattle.world_core.specs.Steps.{hold_text_in, send_text_in, vote_lines_in, vote_text_in}
use Rattle.world_core.specs.Kept.{LeavesAs}
use Rattle.world_core.specs.Texts.{spelled_cert, spelled_tx}

-- ---- observable lists after a call

-- a call leaves its record, or none
pub adds_all : (before now : Option Journals) (m : ℕ) (x : Option Record) → AddsLeft before now m x → AddsAll before now m (list_of x)
adds_all None now m None is = tt
adds_all None now m (Some x) is = tt
adds_all (Some lists) now m None is = is
adds_all (Some lists) now m (Some x) is = is

pub adds_front : (before now : Option Journals) (m : ℕ) (x : Option Record) → MayAddLeft before now m x → AddsFront before now m (list_of x)
adds_front before now m x (inl adds) = record { front = list_of x; rest = []; is = sym (append-nil (list_of x)); adds = adds_all before now m x adds }
adds_front None now m x (inr keeps) = record { front = []; rest = list_of x; is = refl; adds = tt }
adds_front (Some lists) now m x (inr keeps) = record { front = []; rest = list_of x; is = refl; adds = keeps }

-- ---- vote

pub vote_none_lines : (trust : Trust) (sc : Scene) (m : ℕ) (name : Name) (t : Option Made) (lines : List Line) → None ≡ option_map spelled_tx t → lines ≡ line.Vote m name vote_text.Down ∷ [] → lines ≡ vote_lines_in trust sc m name t
vote_none_lines trust sc m name None lines e l = l
vote_none_lines trust sc m name (Some t) lines e l = absurd (cc)

pub vote_some_lines : (trust : Trust) (sc : Scene) (m : ℕ) (name : Name) (t : Option Made) (bytes : List ℕ) (lines : List Line) (text : VoteText) → Some bytes ≡ option_map spelled_tx t → text ≡ vote_text_in trust sc m bytes → lines ≡ line.Vote m name text ∷ [] → lines ≡ vote_lines_in trust sc m name t
vote_some_lines trust sc m name None bytes lines text e x l = absurd (cc)
vote_some_lines trust sc m name (Some t) bytes lines text e x l = l ∙ ap (λ y. line.Vote m name y ∷ []) (x ∙ ap (vote_text_in trust sc m) (cc))

-- ---- send

pub send_none_lines : (trust : Trust) (sc : Scene) (m : ℕ) (name : Name) (c : Option Certificate) (lines : List Line) → None ≡ option_map spelled_cert c → lines ≡ line.Send m name send_text.NoCertificate ∷ [] → lines ≡ line.Send m name (send_text_in trust sc m c) ∷ []
send_none_lines trust sc m name None lines e l = l
send_none_lines trust sc m name (Some c) lines e l = absurd (cc)

pub send_some_lines : (trust : Trust) (sc : Scene) (m : ℕ) (name : Name) (c : Option Certificate) (bytes : List ℕ) (lines : List Line) (text : SendText) → Some bytes ≡ option_map spelled_cert c → text ≡ hold_text_in trust sc m bytes → lines ≡ line.Send m name text ∷ [] → lines ≡ line.Send m name (send_text_in trust sc m c) ∷ []
send_some_lines trust sc m name None bytes lines text e x l = absurd (cc)
send_some_lines trust sc m name (Some c) bytes lines text e x l = l ∙ ap (λ y. line.Send m name y ∷ []) (x ∙ ap (hold_text_in trust sc m) (cc))

-- ---- a call after which something else fails

pub left_on : {A E : Type 0} (r : Rules) (sc : Scene) (m : ℕ) (call : Call) (before now : Option Journals) (result : Result A E) → AddsLeft before now m (record_left (reached_in r sc.posts m call)) → LeavesAs r sc (asks m call) before now result
left_on r sc m call before now (Ok a) is = adds_all before now m (record_left (reached_in r sc.posts m call)) is
left_on r sc m call before now (Err e) is = adds_front before now m (record_left (reached_in r sc.posts m call)) (inl is)
