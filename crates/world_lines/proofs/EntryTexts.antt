-- The lines of a member's answer to an entry.
use Rattle.std.proofs.Common.{◌≡◌, ◌∙◌, ap, sym, refl, ℕ, false, List, [], ◌∷◌, ◌++◌, map, Option, Some, None, Err, append_assoc, append-nil}
use Rattle.protocol_spec.specs.declared.refusals.SeeRefusal.{SeeRefusal}
use Rattle.protocol_spec.specs.declared.refusals.SeeRefusal.TheVariants as no_see
use Rattle.report_text.specs.declared.lines.Line.{Line}
use Rattle.world_spec.specs.World.{World}
use Rattle.world_spec.specs.Report.{Lines, entry_lines}
use Rattle.world_spec.specs.Known.{Known, setting_staked}
use Rattle.world_spec.specs.Posts.{list_of}
use Rattle.world_lines.specs.Pushed.{each_pushed}
use Rattle.world_lines.proofs.Pushed.{all_pushed}

-- a line, and then one for each item
pub taken_lines : {A : Type 0} (f : A → Line) (old : List Line) (l : Line) (xs : List A) → each_pushed f (old ++ l ∷ []) xs ≡ old ++ (l ∷ map f xs)
taken_lines f old l xs = all_pushed f (old ++ l ∷ []) xs ∙ append_assoc old (l ∷ []) (map f xs)

-- a refusal is said alike whatever the stakes are, and nothing goes on after it
said_alike : (stakes : List ℕ) (k : Known) (w : World) (m number : ℕ) (e : SeeRefusal) → entry_lines (setting_staked [] k) w m number (Err e) ≡ entry_lines (setting_staked stakes k) w m number (Err e)
said_alike stakes k w m number no_see.Down = refl
said_alike stakes k w m number (no_see.Halted first second) = refl
said_alike stakes k w m number no_see.Full = refl
said_alike stakes k w m number no_see.Over = refl
said_alike stakes k w m number (no_see.Gap had want) = refl
said_alike stakes k w m number no_see.KeepFault = refl
said_alike stakes k w m number (no_see.Fork key first second) = refl
said_alike stakes k w m number no_see.OutOfMemory = refl

pub refused_ends : (stakes : List ℕ) (k : Known) (w : World) (m number : ℕ) (e : SeeRefusal) → false ≡ (entry_lines (setting_staked stakes k) w m number (Err e)).1
refused_ends stakes k w m number no_see.Down = refl
refused_ends stakes k w m number (no_see.Halted first second) = refl
refused_ends stakes k w m number no_see.Full = refl
refused_ends stakes k w m number no_see.Over = refl
refused_ends stakes k w m number (no_see.Gap had want) = refl
refused_ends stakes k w m number no_see.KeepFault = refl
refused_ends stakes k w m number (no_see.Fork key first second) = refl
refused_ends stakes k w m number no_see.OutOfMemory = refl

pub refused_lines : (stakes : List ℕ) (k : Known) (w : World) (m number : ℕ) (e : SeeRefusal) (old new : List Line) (l : Line) → new ≡ old ++ l ∷ []
    → list_of (Some l) ≡ (entry_lines (setting_staked [] k) w m number (Err e)).0 → new ≡ old ++ (entry_lines (setting_staked stakes k) w m number (Err e)).0
refused_lines stakes k w m number e old new l pushed is =
    pushed ∙ ap (λ (ls : List Line). old ++ ls) (is ∙ ap (λ (x : Lines). x.0) (said_alike stakes k w m number e))

pub none_lines : (stakes : List ℕ) (k : Known) (w : World) (m number : ℕ) (e : SeeRefusal) (old : List Line) (l : Option Line) → None ≡ l
    → list_of l ≡ (entry_lines (setting_staked [] k) w m number (Err e)).0 → old ≡ old ++ (entry_lines (setting_staked stakes k) w m number (Err e)).0
none_lines stakes k w m number e old None n is =
    sym (append-nil old) ∙ ap (λ (ls : List Line). old ++ ls) (is ∙ ap (λ (x : Lines). x.0) (said_alike stakes k w m number e))
none_lines stakes k w m number e old (Some l) n is = absurd (cc)
