-- Each kind of step keeps words, slots and counts in agreement.
use Rattle.std.proofs.Common.{◌≡◌, ◌≢◌, ℕ, ◌+◌, ◌-◌, ◌^◌, ◌<◌, ◌≤◌, Bool, true, false, cond, eqb, List, [], ◌∷◌, length, set, get_or, Option, Some, None, sym, refl, ap, ◌∙◌, subst, eq-eqb, ne_eqb, get_or-set_same, get_or-set_other, length-set, arith}
use mathlib.Core.Logic.{dite}
use mathlib.Core.Option.{some, none}
use mathlib.Core.Option as Maybe
use native.Mathlib.Decide.{ℕ_discrete}
use lib.ListN.{get_elem?}
use Rattle.atomic_table.proofs.Lists.{set_here, set_else}
use Rattle.dag_core.specs.Places.{times}
use Rattle.dag_core.specs.Values.{target, value_of}
use Rattle.dag_core.proofs.Places.{times_here, times_else}
use Rattle.steal_board.specs.declared.view.Paper.{Paper}
use Rattle.steal_board.specs.Views.{mark}
use Rattle.steal_board.specs.Rule.{owing, Stands, Agrees}
use Rattle.steal_board.proofs.Counts.{owing_few, count_few, owing_edge, owing_paid, owing_other}

-- how often x stands in the list of y only
abbrev one : ℕ → ℕ → ℕ
one y x = times x (y ∷ [])

one_here : (y x : ℕ) → y ≡ x → one y x ≡ 1
one_here y x e = times_here x y [] e

one_else : (y x : ℕ) → y ≢ x → one y x ≡ 0
one_else y x ne = times_else x y [] ne

module _ {T : Type 0} (p : Paper T) (ws : List ℕ) (hs : List (Maybe.Option (Option T))) (M U P K R G : ℕ → ℕ) (wide : p.tasks ≤ length ws) (few : length p.edges < 2 ^ 31) (agrees : Agrees p ws hs M U P K R G) where
  -- what is owed is below the mark
  pub owing_small : (t : ℕ) → owing P p.edges t < 2 ^ 31
  owing_small t = let a = owing_few P p.edges t in let b = count_few p.edges t in omega (arith, a, b, few)

  -- a word other than the mark is an unclaimed task's
  pub unclaimed : (t : ℕ) → t < p.tasks → get_or ws t 0 ≢ mark → M t ≡ 0
  unclaimed t lt ne = dite (ℕ_discrete (M t) 0) (λ z. z) (λ nz. absurd (ne (agrees.claimed t lt (omega arith)).0))

  -- a word that is the mark is a claimed task's
  pub is_claimed : (t : ℕ) → t < p.tasks → get_or ws t 0 ≡ mark → M t ≡ 1
  is_claimed t lt is = dite (ℕ_discrete (M t) 0)
      (λ z. absurd (let f = agrees.free t lt z in let s = owing_small t in omega (arith, f, s, is)))
      (λ nz. let o = agrees.once t in omega (arith, o))

  pub won_agrees : (M' : ℕ → ℕ) (t : ℕ) → t < p.tasks → get_or ws t 0 ≡ 0 → ((x : ℕ) → M' x ≡ M x + times x (t ∷ [])) → Agrees p (set ws t mark) hs M' U P K R G
  won_agrees M' t lt is grown =
      let none = unclaimed t lt (λ q. omega (arith, is, q)) in
      let owed = agrees.free t lt none in record {
        free = λ x lx z. dite (ℕ_discrete t x)
            (λ q. absurd (let g = grown x in let o = one_here t x q in omega (arith, g, o, z)))
            (λ ne. let g = grown x in get_or-set_other ws t x mark 0 (λ q. ne (sym q)) ∙ agrees.free x lx (omega (arith, g, z)));
        claimed = λ x lx h. dite (ℕ_discrete t x)
            (λ q. subst (λ n. (get_or (set ws t mark) n 0 ≡ mark) × (owing P p.edges n ≡ 0)) q (get_or-set_same ws t mark 0 (omega (arith, wide)), sym owed ∙ is))
            (λ ne. let g = grown x in let o = one_else t x ne in let c = agrees.claimed x lx (omega (arith, g, o, h)) in (get_or-set_other ws t x mark 0 (λ q. ne (sym q)) ∙ c.0, c.1));
        once = λ x. dite (ℕ_discrete t x)
            (λ q. let g = grown x in let o = one_here t x q in let z : M x ≡ 0 = ap M (sym q) ∙ none in omega (arith, g, o, z))
            (λ ne. let g = grown x in let o = one_else t x ne in let m = agrees.once x in omega (arith, g, o, m));
        inside = λ x le. let g = grown x in let o = one_else t x (λ q. omega arith) in let m = agrees.inside x le in omega (arith, g, o, m);
        spare = λ x le lx. get_or-set_other ws t x mark 0 (λ q. omega arith) ∙ agrees.spare x le (let n = length-set ws t mark in omega (arith, n, lx));
        ready_paid = agrees.ready_paid;
        told = agrees.told;
        gone_claimed = λ x h. dite (ℕ_discrete t x)
            (λ q. absurd (let c = agrees.gone_claimed x h in let z : M x ≡ 0 = ap M (sym q) ∙ none in omega (arith, c, z)))
            (λ ne. let g = grown x in let o = one_else t x ne in let c = agrees.gone_claimed x h in omega (arith, g, o, c));
        slots = agrees.slots;
      }

  pub lost_agrees : (G' : ℕ → ℕ) (t : ℕ) → t < p.tasks → get_or ws t 0 ≡ mark → ((x : ℕ) → G' x ≡ G x + times x (t ∷ [])) → Agrees p ws hs M U P K R G'
  lost_agrees G' t lt is grown = record {
    free = agrees.free;
    claimed = agrees.claimed;
    once = agrees.once;
    inside = agrees.inside;
    spare = agrees.spare;
    ready_paid = agrees.ready_paid;
    told = agrees.told;
    slots = agrees.slots;
    gone_claimed = λ x h. dite (ℕ_discrete t x)
        (λ q. ap M (sym q) ∙ is_claimed t lt is)
        (λ ne. agrees.gone_claimed x (let g = grown x in let o = one_else t x ne in omega (arith, g, o, h)));
  }

  pub turned_agrees : (U' : ℕ → ℕ) (e : ℕ) → e < length p.edges → e < length hs → U e + P e ≡ 0 → ((x : ℕ) → U' x ≡ U x + times x (e ∷ [])) → Agrees p ws (set hs e none) M U' P K R G
  turned_agrees U' e lt here none_yet grown = record { free = agrees.free; claimed = agrees.claimed; once = agrees.once; inside = agrees.inside; spare = agrees.spare; ready_paid = agrees.ready_paid; told = agrees.told; gone_claimed = agrees.gone_claimed; slots = λ x lx. dite (ℕ_discrete e x) (λ q. this x q) (λ ne. other x lx ne) }
    where
      this : (x : ℕ) → e ≡ x → Stands p (set hs e none) x (U' x) (P x) (K x)
      this x q = subst (λ n. Stands p (set hs e none) n (U' n) (P n) (K n)) q (
          let g = grown e in
          let o = one_here e e refl in
          let s = (agrees.slots e lt).after in record {
            alone = omega (arith, g, o, none_yet);
            after = s;
            empty = λ z. absurd (omega (arith, g, o, z));
            out = λ h. set_here hs e none here;
            full = λ h z. absurd (omega (arith, none_yet, h));
          })

      other : (x : ℕ) → x < length p.edges → e ≢ x → Stands p (set hs e none) x (U' x) (P x) (K x)
      other x lx ne =
          let g = grown x in
          let o = one_else e x ne in
          let s = agrees.slots x lx in
          let a = s.alone in
          let stays : get_elem? (set hs e none) x ≡ get_elem? hs x = set_else hs e x none (λ q. ne (sym q)) in record {
            alone = omega (arith, g, o, a);
            after = s.after;
            empty = λ z. stays ∙ s.empty (omega (arith, g, o, z));
            out = λ h. stays ∙ s.out (omega (arith, g, o, h));
            full = λ h z. let f = s.full h z in (f.0, f.1, stays ∙ f.2);
          }

  pub taken_agrees : (K' : ℕ → ℕ) (e : ℕ) → e < length p.edges → e < length hs → K e ≡ 0 → 0 < P e → ((x : ℕ) → K' x ≡ K x + times x (e ∷ [])) → Agrees p ws (set hs e none) M U P K' R G
  taken_agrees K' e lt here none_yet paid grown = record { free = agrees.free; claimed = agrees.claimed; once = agrees.once; inside = agrees.inside; spare = agrees.spare; ready_paid = agrees.ready_paid; told = agrees.told; gone_claimed = agrees.gone_claimed; slots = λ x lx. dite (ℕ_discrete e x) (λ q. this x q) (λ ne. other x lx ne) }
    where
      this : (x : ℕ) → e ≡ x → Stands p (set hs e none) x (U x) (P x) (K' x)
      this x q = subst (λ n. Stands p (set hs e none) n (U n) (P n) (K' n)) q (
          let g = grown e in
          let o = one_here e e refl in
          let a = (agrees.slots e lt).alone in record {
            alone = a;
            after = omega (arith, g, o, none_yet, paid);
            empty = λ z. absurd (omega (arith, z, paid));
            out = λ h. absurd (omega (arith, a, h, paid));
            full = λ h z. absurd (omega (arith, g, o, z));
          })

      other : (x : ℕ) → x < length p.edges → e ≢ x → Stands p (set hs e none) x (U x) (P x) (K' x)
      other x lx ne =
          let g = grown x in
          let o = one_else e x ne in
          let s = agrees.slots x lx in
          let a = s.after in
          let stays : get_elem? (set hs e none) x ≡ get_elem? hs x = set_else hs e x none (λ q. ne (sym q)) in record {
            alone = s.alone;
            after = omega (arith, g, o, a);
            empty = λ z. stays ∙ s.empty z;
            out = λ h. stays ∙ s.out h;
            full = λ h z. let f = s.full h (omega (arith, g, o, z)) in (f.0, f.1, stays ∙ f.2);
          }

  pub returned_agrees : (e : ℕ) → e < length p.edges → 0 < K e → Agrees p ws (set hs e (some None)) M U P K R G
  returned_agrees e lt was = record { free = agrees.free; claimed = agrees.claimed; once = agrees.once; inside = agrees.inside; spare = agrees.spare; ready_paid = agrees.ready_paid; told = agrees.told; gone_claimed = agrees.gone_claimed; slots = λ x lx. dite (ℕ_discrete e x) (λ q. this x q) (λ ne. other x lx ne) }
    where
      this : (x : ℕ) → e ≡ x → Stands p (set hs e (some None)) x (U x) (P x) (K x)
      this x q = subst (λ n. Stands p (set hs e (some None)) n (U n) (P n) (K n)) q (
          let s = agrees.slots e lt in
          let a = s.alone in
          let b = s.after in record {
            alone = a;
            after = b;
            empty = λ z. absurd (omega (arith, b, z, was));
            out = λ h. absurd (omega (arith, a, b, h, was));
            full = λ h z. absurd (omega (arith, z, was));
          })

      other : (x : ℕ) → x < length p.edges → e ≢ x → Stands p (set hs e (some None)) x (U x) (P x) (K x)
      other x lx ne =
          let s = agrees.slots x lx in
          let stays : get_elem? (set hs e (some None)) x ≡ get_elem? hs x = set_else hs e x (some None) (λ q. ne (sym q)) in record {
            alone = s.alone;
            after = s.after;
            empty = λ z. stays ∙ s.empty z;
            out = λ h. stays ∙ s.out h;
            full = λ h z. let f = s.full h z in (f.0, f.1, stays ∙ f.2);
          }

  -- the target of an edge that is about to be paid is unclaimed, and its word counts the edge
  pub target_owed : (e : ℕ) → e < length p.edges → P e ≡ 0 → target p.edges e < p.tasks → (M (target p.edges e) ≡ 0) × (get_or ws (target p.edges e) 0 ≡ owing P p.edges (target p.edges e)) × (0 < owing P p.edges (target p.edges e))
  target_owed e lt unpaid inside =
      let owed = owing_edge P p.edges e lt unpaid in
      let free : M (target p.edges e) ≡ 0 = dite (ℕ_discrete (M (target p.edges e)) 0) (λ z. z) (λ nz. absurd (let c = (agrees.claimed (target p.edges e) inside (omega arith)).1 in omega (arith, c, owed))) in (
        free,
        agrees.free (target p.edges e) inside free,
        owed,
      )

  pub paid_agrees : (U' P' R' : ℕ → ℕ) (e : ℕ) (v : T) → e < length p.edges → e < length hs → target p.edges e < p.tasks → 0 < U e → value_of p.values e ≡ Some v
      → ((x : ℕ) → U x ≡ U' x + times x (e ∷ [])) → ((x : ℕ) → P' x ≡ P x + times x (e ∷ []))
      → ((x : ℕ) → R' x ≡ R x + cond (eqb (get_or ws (target p.edges e) 0) 1) (times x (target p.edges e ∷ [])) 0)
      → Agrees p (set ws (target p.edges e) (get_or ws (target p.edges e) 0 - 1)) (set hs e (some (Some v))) M U' P' K R' G
  paid_agrees U' P' R' e v lt here inside turned is_value fewer grown told_more = record {
    free = λ t lt' z. dite (ℕ_discrete (target p.edges e) t)
        (λ q. subst (λ n. get_or (set ws (target p.edges e) (get_or ws (target p.edges e) 0 - 1)) n 0 ≡ owing P' p.edges n) q
        (get_or-set_same ws (target p.edges e) (get_or ws (target p.edges e) 0 - 1) 0 (omega (arith, wide)) ∙ (let a = owed.1 in omega (arith, a, less))))
        (λ ne. get_or-set_other ws (target p.edges e) t (get_or ws (target p.edges e) 0 - 1) 0 (λ q. ne (sym q)) ∙ (agrees.free t lt' z ∙ sym (same_owed t ne)));
    claimed = λ t lt' h. dite (ℕ_discrete (target p.edges e) t)
        (λ q. absurd (let z : M t ≡ 0 = ap M (sym q) ∙ owed.0 in omega (arith, z, h)))
        (λ ne. let c = agrees.claimed t lt' h in (get_or-set_other ws (target p.edges e) t (get_or ws (target p.edges e) 0 - 1) 0 (λ q. ne (sym q)) ∙ c.0, same_owed t ne ∙ c.1));
    once = agrees.once;
    inside = agrees.inside;
    spare = λ t le lt'. get_or-set_other ws (target p.edges e) t (get_or ws (target p.edges e) 0 - 1) 0 (λ q. omega arith) ∙ agrees.spare t le (let n = length-set ws (target p.edges e) (get_or ws (target p.edges e) 0 - 1) in omega (arith, n, lt'));
    ready_paid = λ t h. dite (ℕ_discrete (target p.edges e) t) (λ q. subst (λ n. 0 < R' n → owing P' p.edges n ≡ 0) q here_ready h) (λ ne. same_owed t ne ∙ agrees.ready_paid t (other_ready t ne h));
    told = λ t c z. dite (ℕ_discrete (target p.edges e) t) (λ q. subst (λ n. owing P' p.edges n ≡ 0 → 0 < R' n) q here_told z)
        (λ ne. let r = agrees.told t c (sym (same_owed t ne) ∙ z) in let m = told_more t in omega (arith, r, m));
    gone_claimed = agrees.gone_claimed;
    slots = λ x lx. dite (ℕ_discrete e x) (λ q. this x q) (λ ne. other x lx ne);
  }
    where
      unpaid : P e ≡ 0
      unpaid = let a = (agrees.slots e lt).alone in omega (arith, a, turned)

      owed : (M (target p.edges e) ≡ 0) × (get_or ws (target p.edges e) 0 ≡ owing P p.edges (target p.edges e)) × (0 < owing P p.edges (target p.edges e))
      owed = target_owed e lt unpaid inside

      less : owing P p.edges (target p.edges e) ≡ owing P' p.edges (target p.edges e) + 1
      less = owing_paid P P' p.edges e lt unpaid (let g = grown e in let o = one_here e e refl in omega (arith, g, o, unpaid)) (λ x ne. let g = grown x in let o = one_else e x (λ q. ne (sym q)) in omega (arith, g, o))

      same_owed : (t : ℕ) → target p.edges e ≢ t → owing P' p.edges t ≡ owing P p.edges t
      same_owed t ne = owing_other P P' p.edges e t (λ q. ne (sym q)) (λ x nx. let g = grown x in let o = one_else e x (λ q. nx (sym q)) in omega (arith, g, o))

      -- the word was 1 exactly if nothing is owed any more
      more_here : (b : Bool) → eqb (get_or ws (target p.edges e) 0) 1 ≡ b → R' (target p.edges e) ≡ R (target p.edges e) + cond b 1 0
      more_here b q = let m = told_more (target p.edges e) in let o = one_here (target p.edges e) (target p.edges e) refl in
          subst (λ c. R' (target p.edges e) ≡ R (target p.edges e) + cond c 1 0) q (subst (λ k. R' (target p.edges e) ≡ R (target p.edges e) + cond (eqb (get_or ws (target p.edges e) 0) 1) k 0) o m)

      here_ready : 0 < R' (target p.edges e) → owing P' p.edges (target p.edges e) ≡ 0
      here_ready h = dite (ℕ_discrete (get_or ws (target p.edges e) 0) 1)
          (λ q. let a = owed.1 in omega (arith, q, a, less))
          (λ ne. absurd (
          let m = more_here false (ne_eqb (get_or ws (target p.edges e) 0) 1 ne) in
          let r = agrees.ready_paid (target p.edges e) (omega (arith, m, h)) in
          let w = owed.2 in omega (arith, r, w)))

      here_told : owing P' p.edges (target p.edges e) ≡ 0 → 0 < R' (target p.edges e)
      here_told z = let a = owed.1 in
          let q : get_or ws (target p.edges e) 0 ≡ 1 = omega (arith, a, less, z) in
          let m = more_here true (eq-eqb (get_or ws (target p.edges e) 0) 1 q) in omega (arith, m)

      other_ready : (t : ℕ) → target p.edges e ≢ t → 0 < R' t → 0 < R t
      other_ready t ne h = go (eqb (get_or ws (target p.edges e) 0) 1) (told_more t)
        where
          go : (b : Bool) → R' t ≡ R t + cond b (times t (target p.edges e ∷ [])) 0 → 0 < R t
          go true m = let o = one_else (target p.edges e) t ne in omega (arith, m, o, h)
          go false m = omega (arith, m, h)

      this : (x : ℕ) → e ≡ x → Stands p (set hs e (some (Some v))) x (U' x) (P' x) (K x)
      this x q = subst (λ n. Stands p (set hs e (some (Some v))) n (U' n) (P' n) (K n)) q (
          let f = fewer e in
          let g = grown e in
          let o = one_here e e refl in
          let s = agrees.slots e lt in
          let a = s.alone in
          let b = s.after in record {
            alone = omega (arith, f, g, o, a);
            after = omega (arith, g, b);
            empty = λ z. absurd (omega (arith, g, o, z));
            out = λ h. absurd (omega (arith, f, o, a, h));
            full = λ h z. (v, is_value, set_here hs e (some (Some v)) here);
          })

      other : (x : ℕ) → x < length p.edges → e ≢ x → Stands p (set hs e (some (Some v))) x (U' x) (P' x) (K x)
      other x lx ne =
          let f = fewer x in
          let g = grown x in
          let o = one_else e x ne in
          let s = agrees.slots x lx in
          let a = s.alone in
          let b = s.after in
          let stays : get_elem? (set hs e (some (Some v))) x ≡ get_elem? hs x = set_else hs e x (some (Some v)) (λ q. ne (sym q)) in record {
            alone = omega (arith, f, g, o, a);
            after = omega (arith, g, o, b);
            empty = λ z. stays ∙ s.empty (omega (arith, f, g, o, z));
            out = λ h. stays ∙ s.out (omega (arith, f, o, h));
            full = λ h z. let r = s.full (omega (arith, g, o, h)) z in (r.0, r.1, stays ∙ r.2);
          }
