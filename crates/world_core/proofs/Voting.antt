-- False votes and certificates of a scene.
use Rattle.std.proofs.Common.{◌≡◌, ◌∙◌, ap, sym, refl, subst, ℕ, zero, suc, Bool, true, false, cond, List, [], ◌∷◌, ◌++◌, Option, Some, None, option_map}
use Rattle.std.specs.Prelude.{bytes_eq, find, slice_get}
use Rattle.digest_core.specs.declared.Digest.{Digest}
use Rattle.chain_types.specs.Transactions as transactions
use Rattle.chain_types.specs.declared.transactions.SignedTx.{SignedTx}
use Rattle.chain_messages.specs.declared.messages.Certificate.{Certificate}
use Rattle.chain_messages.specs.declared.messages.Statement.TheVariants as statement
use Rattle.chain_messages.specs.Messages as messages
use Rattle.protocol_spec.specs.Chain.Collecting.{Collected, collected, differ, lacks, short, whole}
use Rattle.protocol_spec.specs.Chain.Tests.{origins_eq}
use Rattle.protocol_spec.specs.Chain.Words.{Each, first_some, last_where, where_true}
use Rattle.report_text.specs.declared.lines.Line.{Line}
use Rattle.report_text.specs.declared.lines.Line.TheVariants as line
use Rattle.report_text.specs.declared.lines.CertText.TheVariants as cert_text
use Rattle.world_spec.specs.Setting.{Name, Trust, seal_of_member}
use Rattle.world_spec.specs.World.{Formed, Made, Said, said_under, seat_is, sealed_by}
use Rattle.world_spec.specs.Names.{cert_in, made_named}
use Rattle.world_spec.specs.Report.{cert_collected, cert_lines, fvote_lines_by, origin_names}
use Rattle.world_spec.specs.Step as steps
use Rattle.world_spec.specs.Step.{certificate_of, formed, formed_as, fvoted_by, first_origins, last_said, no_origins, origins_or, vote_in, votes_collected}
use Rattle.world_spec.specs.Known.{Known, world_with}
use Rattle.world_lines.specs.declared.rows.MadeTx.{MadeTx}
use Rattle.world_lines.specs.KnownRows.{made_as}
use Rattle.cert_rules.specs.declared.collecting.Collected.{Collected as Given}
use Rattle.cert_rules.specs.declared.collecting.Collected.TheVariants as given
use Rattle.cert_rules.specs.Collecting.{collected_as}
use Rattle.world_lines.specs.Answers.{is_whole}
use Rattle.world_lines.specs.Forming.{first_origins_by}
use Rattle.world_lines.specs.FalseVotes.{origins_by}
use Rattle.world_lines.proofs.SaidWorlds.{first_from}
use Rattle.world_spec.specs.Posts.{Post, post_honest}
use Rattle.world_spec.specs.Scene.{Scene, bare_setting, post_world}
use Rattle.world_core.specs.Crews.{honest_flags}
use Rattle.world_core.specs.Sound.{IsSpelled, IsSpelledCert}
use Rattle.world_core.specs.Votes.{flag_at}

-- ---- a false vote in a scene

origins_same : (sc : Scene) (t : Made) (words : List (Option Name)) → origins_by sc.known sc.said (honest_flags sc.posts) t words ≡ steps.origins_by post_honest (post_world sc) t words
origins_same sc t [] = ap (origins_or (no_origins t.signed.tx)) (sym (first_from post_honest (post_world sc) t 0 sc.posts))
origins_same sc t (word ∷ words) = refl

pub honest_same : (posts : List Post) (m : ℕ) → flag_at (slice_get (honest_flags posts) m) ≡ seat_is post_honest (slice_get posts m)
honest_same [] m = refl
honest_same (p ∷ ps) zero = refl
honest_same (p ∷ ps) (suc m) = honest_same ps m

pub unnamed_votes : (trust : Trust) (sc : Scene) (m : ℕ) (words : List (Option Name)) (t : Option Made) → None ≡ t → sc ≡ record sc { said = (fvoted_by post_honest (bare_setting trust sc) (post_world sc) m words t).said }
unnamed_votes trust sc m words None e = refl
unnamed_votes trust sc m words (Some t) e = absurd (cc)

pub unnamed_lines : (sc : Scene) (m : ℕ) (name : Name) (words : List (Option Name)) (t : Option Made) (lines : List Line) → None ≡ t → lines ≡ line.Fvote m name [] ∷ [] → lines ≡ fvote_lines_by post_honest (post_world sc) m name words t
unnamed_lines sc m name words None lines e l = l
unnamed_lines sc m name words (Some t) lines e l = absurd (cc)

at_honest : (trust : Trust) (sc : Scene) (m : ℕ) (words : List (Option Name)) (t : Made) (b : Bool) → flag_at (slice_get (honest_flags sc.posts) m) ≡ b
    → (fvoted_by post_honest (bare_setting trust sc) (post_world sc) m words (Some t)).said ≡ cond b sc.said (sc.said ++ sealed_by trust.seal m (statement.Vote t.signed.tx.epoch t.digest (origins_by sc.known sc.said (honest_flags sc.posts) t words)) ∷ [])
at_honest trust sc m words t true is = ap (λ b. (cond b (post_world sc) (record (post_world sc) { said = sc.said ++ sealed_by trust.seal m (statement.Vote t.signed.tx.epoch t.digest (steps.origins_by post_honest (post_world sc) t words)) ∷ [] })).said) (sym (honest_same sc.posts m) ∙ is)
at_honest trust sc m words t false is =
    ap (λ b. (cond b (post_world sc) (record (post_world sc) { said = sc.said ++ sealed_by trust.seal m (statement.Vote t.signed.tx.epoch t.digest (steps.origins_by post_honest (post_world sc) t words)) ∷ [] })).said) (sym (honest_same sc.posts m) ∙ is)
    ∙ ap (λ os. sc.said ++ sealed_by trust.seal m (statement.Vote t.signed.tx.epoch t.digest os) ∷ []) (sym (origins_same sc t words))

pub honest_votes_not : (trust : Trust) (sc : Scene) (m : ℕ) (words : List (Option Name)) (made : MadeTx) (t : Option Made) → Some (made_as made) ≡ t → flag_at (slice_get (honest_flags sc.posts) m) ≡ true → sc.said ≡ (fvoted_by post_honest (bare_setting trust sc) (post_world sc) m words t).said
honest_votes_not trust sc m words made None e is = absurd (cc)
honest_votes_not trust sc m words made (Some t) e is = sym (at_honest trust sc m words t true is)

pub faulty_votes : (trust : Trust) (sc : Scene) (m : ℕ) (words : List (Option Name)) (made : MadeTx) (t : Option Made) (origins : List (Option Digest)) (seal : Digest) (said : List Said) → Some (made_as made) ≡ t
    → flag_at (slice_get (honest_flags sc.posts) m) ≡ false → origins ≡ origins_by sc.known sc.said (honest_flags sc.posts) (made_as made) words
    → seal ≡ seal_of_member trust.seal m (statement.Vote made.signed.tx.epoch made.digest origins)
    → said ≡ sc.said ++ said_under seal m (statement.Vote made.signed.tx.epoch made.digest origins) ∷ [] → said ≡ (fvoted_by post_honest (bare_setting trust sc) (post_world sc) m words t).said
faulty_votes trust sc m words made t origins seal said e is o sealed s =
    s ∙ ap (λ (d : Digest). sc.said ++ said_under d m (statement.Vote made.signed.tx.epoch made.digest origins) ∷ []) sealed ∙ ap (λ os. sc.said ++ sealed_by trust.seal m (statement.Vote made.signed.tx.epoch made.digest os) ∷ []) o ∙ sym (at_honest trust sc m words (made_as made) false is) ∙ ap (λ x. (fvoted_by post_honest (bare_setting trust sc) (post_world sc) m words x).said) e

pub vote_lines : (sc : Scene) (m : ℕ) (name : Name) (words : List (Option Name)) (made : MadeTx) (t : Option Made) (origins : List (Option Digest)) (lines : List Line) → Some (made_as made) ≡ t
    → origins ≡ origins_by sc.known sc.said (honest_flags sc.posts) (made_as made) words → lines ≡ line.Fvote m name (origin_names (world_with sc.known) origins) ∷ [] → lines ≡ fvote_lines_by post_honest (post_world sc) m name words t
vote_lines sc m name words made t origins lines e o l =
    l ∙ ap (λ x. line.Fvote m name (origin_names (world_with sc.known) x) ∷ []) (o ∙ origins_same sc (made_as made) words) ∙ ap (fvote_lines_by post_honest (post_world sc) m name words) e

-- ---- certificates

named_spelled : (ts : List Made) (name : Name) (t : Made) → Each IsSpelled ts → find (λ (x : Made). bytes_eq x.name name) ts ≡ Some t → transactions.signed.short t.signed
named_spelled [] name t all e = absurd (cc)
named_spelled (x ∷ xs) name t all e = go (bytes_eq x.name name) refl (λ h. named_spelled xs name t all.1 h)
  where
    go : (b : Bool) → bytes_eq x.name name ≡ b → (find (λ (y : Made). bytes_eq y.name name) xs ≡ Some t → transactions.signed.short t.signed) → transactions.signed.short t.signed
    go true is more = subst IsSpelled (same (sym (ap (λ c. cond c (Some x) (find (λ (y : Made). bytes_eq y.name name) xs)) is) ∙ e)) all.0
      where
        same : Some x ≡ Some t → x ≡ t
        same h = cc
    go false is more = more (sym (ap (λ c. cond c (Some x) (find (λ (y : Made). bytes_eq y.name name) xs)) is) ∙ e)

-- a transaction of a name can be encoded
pub spelled_named : (k : Known) (name : Name) (made : MadeTx) → Each IsSpelled k.txs → Some (made_as made) ≡ made_named (world_with k) name → transactions.signed.short made.signed
spelled_named k name made all e = named_spelled k.txs name (made_as made) all (sym e)

pub unnamed_forms : (trust : Trust) (sc : Scene) (ms : List ℕ) (t : Option Made) → None ≡ t → sc ≡ record sc { certs = (formed (bare_setting trust sc) (post_world sc) ms t).certs }
unnamed_forms trust sc ms None e = refl
unnamed_forms trust sc ms (Some t) e = absurd (cc)

pub unnamed_cert_lines : (trust : Trust) (sc : Scene) (name : Name) (ms : List ℕ) (t : Option Made) (lines : List Line) → None ≡ t → lines ≡ line.Cert name (cert_text.NoVote 0) ∷ [] → lines ≡ cert_lines (bare_setting trust sc) (post_world sc) name ms t
unnamed_cert_lines trust sc name ms None lines e l = l
unnamed_cert_lines trust sc name ms (Some t) lines e l = absurd (cc)

abbrev collects : Scene → ℕ → Digest → List ℕ → Collected
collects sc epoch tx ms = collected origins_eq sc.terms.stakes (λ m. last_said (vote_in epoch tx) m sc.said) ms

-- what the book gives, by the committee and the transaction that are kept
pub collected_here : (said : List Said) (tx : Digest) (ms : List ℕ) (got : Collected) (stakes kept : List ℕ) (x y : SignedTx)
    → got ≡ collected origins_eq stakes (λ m. last_said (vote_in x.tx.epoch tx) m said) ms → stakes ≡ kept → x ≡ y
    → got ≡ collected origins_eq kept (λ m. last_said (vote_in y.tx.epoch tx) m said) ms
collected_here said tx ms got stakes kept x y is e o =
    is
    ∙ ap (λ (ss : List ℕ). collected origins_eq ss (λ m. last_said (vote_in x.tx.epoch tx) m said) ms) e
    ∙ ap (λ (z : SignedTx). collected origins_eq kept (λ m. last_said (vote_in z.tx.epoch tx) m said) ms) o

pub collected_lines : (trust : Trust) (sc : Scene) (name : Name) (ms : List ℕ) (made : MadeTx) (t : Option Made) (got : Given) (lines : List Line) → Some (made_as made) ≡ t
    → collected_as got ≡ collects sc made.signed.tx.epoch made.digest ms → lines ≡ line.Cert name (cert_collected ms (collected_as got)) ∷ [] → lines ≡ cert_lines (bare_setting trust sc) (post_world sc) name ms t
unfolding votes_collected
collected_lines trust sc name ms made t got lines e c l =
    l ∙ ap (λ y. line.Cert name (cert_collected ms y) ∷ []) c ∙ ap (cert_lines (bare_setting trust sc) (post_world sc) name ms) e

-- what is formed, by what was collected
forms : (trust : Trust) (sc : Scene) (ms : List ℕ) (t : Made) (c : Collected) → c ≡ collects sc t.signed.tx.epoch t.digest ms → (formed_as (post_world sc) t ms c).certs ≡ (formed (bare_setting trust sc) (post_world sc) ms (Some t)).certs
unfolding votes_collected
forms trust sc ms t c is = ap (λ x. (formed_as (post_world sc) t ms x).certs) is

first_same : (sc : Scene) (t : Made) (ms : List ℕ) → first_origins_by sc.said t.signed.tx.epoch t.digest ms ≡ first_origins (post_world sc) t ms
first_same sc t [] = refl
first_same sc t (m ∷ ms) = refl

pub whole_forms : (trust : Trust) (sc : Scene) (ms : List ℕ) (made : MadeTx) (t : Option Made) (got : Given) (cert : Certificate) (certs : List Formed) → Some (made_as made) ≡ t
    → collected_as got ≡ collects sc made.signed.tx.epoch made.digest ms → is_whole got ≡ true → cert ≡ certificate_of sc.said (made_as made) (first_origins_by sc.said made.signed.tx.epoch made.digest ms) ms
    → certs ≡ sc.certs ++ record { name = made.name; cert = cert } ∷ [] → certs ≡ (formed (bare_setting trust sc) (post_world sc) ms t).certs
whole_forms trust sc ms made t (given.Lacks m) cert certs e c is b n = absurd (cc)
whole_forms trust sc ms made t (given.Short w total) cert certs e c is b n = absurd (cc)
whole_forms trust sc ms made t (given.Differ x y) cert certs e c is b n = absurd (cc)
whole_forms trust sc ms made t given.Whole cert certs e c is b n =
    n
    ∙ ap (λ (x : Certificate). sc.certs ++ record { name = made.name; cert = x } ∷ []) (b ∙ ap (λ os. certificate_of sc.said (made_as made) os ms) (first_same sc (made_as made) ms))
    ∙ forms trust sc ms (made_as made) whole c
    ∙ ap (λ x. (formed (bare_setting trust sc) (post_world sc) ms x).certs) e

pub others_form : (trust : Trust) (sc : Scene) (ms : List ℕ) (made : MadeTx) (t : Option Made) (got : Given) → Some (made_as made) ≡ t
    → collected_as got ≡ collects sc made.signed.tx.epoch made.digest ms → is_whole got ≡ false → sc.certs ≡ (formed (bare_setting trust sc) (post_world sc) ms t).certs
others_form trust sc ms made t (given.Lacks m) e c is = forms trust sc ms (made_as made) (lacks m) c ∙ ap (λ x. (formed (bare_setting trust sc) (post_world sc) ms x).certs) e
others_form trust sc ms made t (given.Short w total) e c is = forms trust sc ms (made_as made) (short w total) c ∙ ap (λ x. (formed (bare_setting trust sc) (post_world sc) ms x).certs) e
others_form trust sc ms made t (given.Differ a b) e c is = forms trust sc ms (made_as made) (differ a b) c ∙ ap (λ x. (formed (bare_setting trust sc) (post_world sc) ms x).certs) e
others_form trust sc ms made t given.Whole e c is = absurd (cc)

last_spelled : (fs : List Formed) (name : Name) (c : Certificate) → Each IsSpelledCert fs → option_map cert_in (last_where (λ (f : Formed). bytes_eq f.name name) fs) ≡ Some c → messages.certificate.short c
last_spelled [] name c all e = absurd (cc)
last_spelled (f ∷ fs) name c all e = go (last_where (λ (x : Formed). bytes_eq x.name name) fs) refl (bytes_eq f.name name) refl (λ h. last_spelled fs name c all.1 h)
  where
    at_last : (o : Option Formed) → last_where (λ (x : Formed). bytes_eq x.name name) fs ≡ o → option_map cert_in (first_some (o ∷ where_true (bytes_eq f.name name) f ∷ [])) ≡ Some c
    at_last o is = sym (ap (λ y. option_map cert_in (first_some (y ∷ where_true (bytes_eq f.name name) f ∷ []))) is) ∙ e

    go : (o : Option Formed) → last_where (λ (x : Formed). bytes_eq x.name name) fs ≡ o → (b : Bool) → bytes_eq f.name name ≡ b
        → (option_map cert_in (last_where (λ (x : Formed). bytes_eq x.name name) fs) ≡ Some c → messages.certificate.short c) → messages.certificate.short c
    go (Some x) is b at more = more (ap (option_map cert_in) is ∙ at_last (Some x) is)
    go None is true at more = subst messages.certificate.short (same (sym (ap (λ y. option_map cert_in (first_some (None ∷ where_true y f ∷ []))) at) ∙ at_last None is)) all.0
      where
        same : Some f.cert ≡ Some c → f.cert ≡ c
        same h = cc
    go None is false at more = absurd (none (sym (ap (λ y. option_map cert_in (first_some (None ∷ where_true y f ∷ []))) at) ∙ at_last None is))
      where
        none : (let o : Option Certificate = None in o) ≡ Some c → ⊥
        none h = cc

-- a certificate of a name can be encoded
pub spelled_cert : (fs : List Formed) (name : Name) (c : Certificate) → Each IsSpelledCert fs → Some c ≡ option_map cert_in (last_where (λ (f : Formed). bytes_eq f.name name) fs) → messages.certificate.short c
spelled_cert fs name c all e = last_spelled fs name c all (sym e)

-- the origins of the first of the members
-- ---- likewise in a scene that is seen from inside

abbrev with_certs : Scene → List Formed → Scene
with_certs sc certs = record sc { certs = certs }

pub form_others : (trust : Trust) (v sc : Scene) (name : Name) (ms : List ℕ) (made : MadeTx) (got : Given) (b : Bool) → v ≡ sc → Some (made_as made) ≡ made_named (post_world v) name
    → collected_as got ≡ collects v made.signed.tx.epoch made.digest ms → b ≡ is_whole got → b ≡ false → sc ≡ with_certs sc (formed (bare_setting trust sc) (post_world sc) ms (made_named (post_world sc) name)).certs
form_others trust v sc name ms made got b same e c w n =
    subst (λ (x : Scene). x ≡ with_certs x (formed (bare_setting trust x) (post_world x) ms (made_named (post_world x) name)).certs) same
    (ap (with_certs v) (others_form trust v ms made (made_named (post_world v) name) got e c (sym w ∙ n)))

pub form_whole : (trust : Trust) (v sc : Scene) (name : Name) (ms : List ℕ) (made : MadeTx) (got : Given) (b : Bool) (cert : Certificate) (certs : List Formed) → v ≡ sc → Some (made_as made) ≡ made_named (post_world v) name
    → collected_as got ≡ collects v made.signed.tx.epoch made.digest ms → b ≡ is_whole got → b ≡ true → cert ≡ certificate_of v.said (made_as made) (first_origins_by v.said made.signed.tx.epoch made.digest ms) ms
    → certs ≡ v.certs ++ record { name = made.name; cert = cert } ∷ [] → with_certs v certs ≡ with_certs sc (formed (bare_setting trust sc) (post_world sc) ms (made_named (post_world sc) name)).certs
form_whole trust v sc name ms made got b cert certs same e c w n by is =
    subst (λ (x : Scene). with_certs v certs ≡ with_certs x (formed (bare_setting trust x) (post_world x) ms (made_named (post_world x) name)).certs) same
    (ap (with_certs v) (whole_forms trust v ms made (made_named (post_world v) name) got cert certs e c (sym w ∙ n) by is))

pub form_lines : (trust : Trust) (v sc : Scene) (name : Name) (ms : List ℕ) (made : MadeTx) (got : Given) (lines : List Line) → v ≡ sc → Some (made_as made) ≡ made_named (post_world v) name
    → collected_as got ≡ collects v made.signed.tx.epoch made.digest ms → lines ≡ line.Cert name (cert_collected ms (collected_as got)) ∷ [] → lines ≡ cert_lines (bare_setting trust sc) (post_world sc) name ms (made_named (post_world sc) name)
form_lines trust v sc name ms made got lines same e c l =
    subst (λ (x : Scene). lines ≡ cert_lines (bare_setting trust x) (post_world x) name ms (made_named (post_world x) name)) same
    (collected_lines trust v name ms made (made_named (post_world v) name) got lines e c l)

pub false_lines : (v sc : Scene) (m : ℕ) (name : Name) (words : List (Option Name)) (made : MadeTx) (origins : List (Option Digest)) (lines : List Line) → v ≡ sc → Some (made_as made) ≡ made_named (post_world v) name
    → origins ≡ origins_by v.known v.said (honest_flags v.posts) (made_as made) words → lines ≡ line.Fvote m name (origin_names (world_with v.known) origins) ∷ [] → lines ≡ fvote_lines_by post_honest (post_world sc) m name words (made_named (post_world sc) name)
false_lines v sc m name words made origins lines same e o l =
    subst (λ (x : Scene). lines ≡ fvote_lines_by post_honest (post_world x) m name words (made_named (post_world x) name)) same
    (vote_lines v m name words made (made_named (post_world v) name) origins lines e o l)

abbrev with_said : Scene → List Said → Scene
with_said sc said = record sc { said = said }

pub false_none : (trust : Trust) (v sc : Scene) (m : ℕ) (name : Name) (words : List (Option Name)) (made : MadeTx) (flags : List Bool) (b : Bool) → v ≡ sc → Some (made_as made) ≡ made_named (post_world v) name
    → flags ≡ honest_flags v.posts → b ≡ flag_at (slice_get flags m) → b ≡ true → sc ≡ with_said sc (fvoted_by post_honest (bare_setting trust sc) (post_world sc) m words (made_named (post_world sc) name)).said
false_none trust v sc m name words made flags b same e are flag is =
    subst (λ (x : Scene). x ≡ with_said x (fvoted_by post_honest (bare_setting trust x) (post_world x) m words (made_named (post_world x) name)).said) same
    (ap (with_said v) (honest_votes_not trust v m words made (made_named (post_world v) name) e (sym (ap (λ (fs : List Bool). flag_at (slice_get fs m)) are) ∙ sym flag ∙ is)))

pub false_said : (trust : Trust) (v sc : Scene) (m : ℕ) (name : Name) (words : List (Option Name)) (made : MadeTx) (flags : List Bool) (b : Bool) (origins : List (Option Digest)) (seal : Digest) (signed : SignedTx) (said : List Said) → v ≡ sc
    → Some (made_as made) ≡ made_named (post_world v) name → flags ≡ honest_flags v.posts → b ≡ flag_at (slice_get flags m) → b ≡ false → origins ≡ origins_by v.known v.said flags (made_as made) words
    → seal ≡ seal_of_member trust.seal m (statement.Vote made.signed.tx.epoch made.digest origins) → signed ≡ made.signed → said ≡ v.said ++ said_under seal m (statement.Vote signed.tx.epoch made.digest origins) ∷ []
    → with_said v said ≡ with_said sc (fvoted_by post_honest (bare_setting trust sc) (post_world sc) m words (made_named (post_world sc) name)).said
false_said trust v sc m name words made flags b origins seal signed said same e are flag is o sealed x s =
    subst (λ (x : Scene). with_said v said ≡ with_said x (fvoted_by post_honest (bare_setting trust x) (post_world x) m words (made_named (post_world x) name)).said) same
    (ap (with_said v) (faulty_votes trust v m words made (made_named (post_world v) name) origins seal said e
    (sym (ap (λ (fs : List Bool). flag_at (slice_get fs m)) are) ∙ sym flag ∙ is)
    (o ∙ ap (λ (fs : List Bool). origins_by v.known v.said fs (made_as made) words) are)
    sealed
    (s ∙ ap (λ (y : SignedTx). v.said ++ said_under seal m (statement.Vote y.tx.epoch made.digest origins) ∷ []) x)))
