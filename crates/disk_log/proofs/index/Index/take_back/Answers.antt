use Rattle.std.proofs.Common.{◌≡◌, ℕ, ◌<◌, List, [], ◌∷◌, ◌++◌, length, set, get_or, take, sym, ◌∙◌, ap, subst, arith, length-append, length-set, Option, Some, None}
use Rattle.std.specs.Prelude.{MatchOption}
use Rattle.std.proofs.lemmas.List.{take_at, set-set, set-get_or, get_or-set_same, get_or_read}
use Rattle.disk_log.specs.declared.moment.Span.{Span}
use Rattle.disk_log.specs.Log.{Rows}
use Rattle.disk_log.proofs.index.Index.take_back.Goals as goal

-- the last one off gives the others
popped : (old row new : List Span) (span : Span) (r : Option Span) → row ≡ old ++ span ∷ [] → MatchOption r ((row ≡ []) × (new ≡ [])) (λ item. row ≡ new ++ item ∷ []) → new ≡ old
popped old row new span None is (none, _) = absurd (omega (arith, ap length is, ap length none, length-append old (span ∷ [])))
popped old row new span (Some item) is last =
    let same : length old ≡ length new = omega (arith, ap length is, ap length last, length-append old (span ∷ []), length-append new (item ∷ [])) in
    sym (take_at new (item ∷ []) (length old) (sym same)) ∙ ap (λ (l : List Span). take (length old) l) (sym last ∙ is) ∙ take_at old (span ∷ []) (length old) (λ _. length old)

taken : (items rows : Rows) (m : ℕ) (span : Span) (row new : List Span) (r : Option Span) → items ≡ set rows m (get_or rows m [] ++ span ∷ []) → m < length items → row ≡ get_or items m row → MatchOption r ((row ≡ []) × (new ≡ [])) (λ item. row ≡ new ++ item ∷ []) → set items m new ≡ rows
taken items rows m span row new r is lt read last =
    let within : m < length rows = omega (arith, ap length is, length-set rows m (get_or rows m [] ++ span ∷ [])) in
    let row-is : row ≡ get_or rows m [] ++ span ∷ [] =
    get_or_read items m row lt read [] ∙ ap (λ (l : Rows). get_or l m []) is ∙ get_or-set_same rows m (get_or rows m [] ++ span ∷ []) [] within in
    ap (λ (l : Rows). set l m new) is
    ∙ set-set rows m (get_or rows m [] ++ span ∷ []) new
    ∙ ap (λ (l : List Span). set rows m l) (popped (get_or rows m []) row new span r row-is last)
    ∙ set-get_or rows m []

pub returns : goal.returns
returns c = λ rows span is. taken c.self.inside.rows.items rows c.args.member span c.index_mut-row.result.now c.pop.new.self c.pop.result (c.self.view_is ∙ is) (subst (λ (l : Rows). c.args.member < length l) (sym c.self.view_is) c.requires) c.index_mut-row.ensures.value c.pop.ensures
