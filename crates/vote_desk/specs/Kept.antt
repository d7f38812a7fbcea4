-- What the slot of a desk holds, and one call of it.
use Rattle.std.specs.Prelude.{◌≡◌, List, [], ◌∷◌, ◌++◌}
use Rattle.vote_desk.specs.declared.kept.Kept.{Kept}
use Rattle.vote_desk.specs.Histories.{IsHistory}

-- the slot holds a clerk in the state that this history led to, and the entries of this history
pub record Stands {C Q A E S : Type 0} (step : S → E → S → Type 0) (state : C → S) (opening : S) (log : List E) (held : Kept C Q A E S) : Type 0 where
  pub entries : held.entries.items ≡ log
  pub history : IsHistory step opening log (state held.clerk)

-- one call was made: there is one entry more, which names the request and the reply
pub record MakesCall {C Q A E S : Type 0} (step : S → E → S → Type 0) (state : C → S) (tells : E → Q → A → Type 0) (old new : Kept C Q A E S) (request : Q) (reply : A) : Type 0 where
  pub entry : E
  pub entries : new.entries.items ≡ old.entries.items ++ entry ∷ []
  pub made : step (state old.clerk) entry (state new.clerk)
  pub told : tells entry request reply
