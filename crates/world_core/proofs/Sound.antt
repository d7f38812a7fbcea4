-- What holds of each world is kept by its lines; a committee and its members.
use Rattle.std.proofs.Common.{arith, ◌≡◌, ◌≤◌, ℕ, suc, Bool, true, false, cond, List, [], ◌∷◌, ◌++◌, length, Option, Some, None, Result, Ok, Err, refl, ap, sym, subst, ◌∙◌}
use Rattle.std.specs.Prelude.{OnOk, fold, nat_lt, ◌==◌}
use Rattle.std.proofs.lemmas.Bool.{ltb-false}
use Rattle.chain_types.specs.declared.objects.Object.{Object}
use Rattle.chain_types.specs.Transactions as transactions
use Rattle.chain_messages.specs.Messages as messages
use Rattle.chain_messages.specs.declared.messages.Certificate.{Certificate}
use Rattle.chain_messages.specs.declared.messages.Entry.{Entry}
use Rattle.protocol_spec.proofs.ListLemmas.{each_push}
use Rattle.protocol_spec.specs.Chain.Words.{Each}
use Rattle.quorum_core.specs.Committee.{committee_of, without_zero, zero_from}
use Rattle.quorum_core.specs.declared.committee.CommitteeRefusal.TheVariants as refusal
use Rattle.schedule_text.specs.declared.words.Setup.{Setup}
use Rattle.schedule_text.specs.declared.words.Setup.TheVariants as line
use Rattle.world_spec.specs.Setting.{Name, Trust, honest_of, objects_from, stakes_of, with_new}
use Rattle.world_spec.specs.World.{Formed, Made}
use Rattle.world_spec.specs.Making.{TxLine}
use Rattle.world_spec.specs.Known.{Known, known_by, with_line}
use Rattle.world_spec.specs.MadeLines.{line_made}
use Rattle.world_spec.specs.Scene.{Scene}
use Rattle.world_spec.specs.SceneWorlds.{AreKeepable}
use Rattle.world_lines.specs.Orders.{Orders, no_orders}
use Rattle.world_core.specs.Steps.{held_in, with_tx}
use Rattle.world_core.specs.Sound.{IsSound, IsSpelled, IsSpelledCert}
use Rattle.world_lines.proofs.Opened.{opening_apart}

-- the first world
pub sound_first : (lines : List Setup) (opening : List Object) (known : Known) (orders : Orders) (certs : List Formed) → opening ≡ fold with_new [] (objects_from 0 lines) → known ≡ known_by lines → orders ≡ no_orders → certs ≡ [] → IsSound opening known certs orders.sequences
sound_first lines opening known orders certs o k s c =
    record {
      made = subst (λ (x : Known). Each IsSpelled x.txs) (sym k) tt;
      formed = subst (λ (x : List Formed). Each IsSpelledCert x) (sym c) tt;
      apart = opening_apart lines opening o;
      keepable = subst (λ (x : Orders). AreKeepable x.sequences) (sym s) (tt, tt);
    }

-- what is known is the same
pub sound_same : (opening : List Object) (known new : Known) (certs : List Formed) (sequences : List (List Entry)) → IsSound opening known certs sequences → new ≡ known → IsSound opening new certs sequences
sound_same opening known new certs sequences is same = subst (λ (k : Known). IsSound opening k certs sequences) (sym same) is

-- one more transaction
pub sound_made : (opening : List Object) (known new : Known) (certs : List Formed) (sequences : List (List Entry)) (l : TxLine) (t : Made) → IsSound opening known certs sequences → transactions.signed.short t.signed → new ≡ with_line known l t → IsSound opening new certs sequences
sound_made opening known new certs sequences l t is short now =
    record {
      made = subst (λ (x : Known). Each IsSpelled x.txs) (sym now) (each_push IsSpelled known.txs t is.made short);
      formed = is.formed;
      apart = is.apart;
      keepable = is.keepable;
    }

-- one more certificate
pub sound_formed : (opening : List Object) (known : Known) (certs new : List Formed) (sequences : List (List Entry)) (name : Name) (c : Certificate) → IsSound opening known certs sequences → messages.certificate.short c → new ≡ certs ++ record { name = name; cert = c } ∷ [] → IsSound opening known new sequences
sound_formed opening known certs new sequences name c is short now =
    record {
      made = is.made;
      formed = subst (λ (x : List Formed). Each IsSpelledCert x) (sym now) (each_push IsSpelledCert certs (record { name = name; cert = c }) is.formed short);
      apart = is.apart;
      keepable = is.keepable;
    }

-- ---- committees

pub stakes_same : (stakes c : List ℕ) → committee_of stakes ≡ Ok c → c ≡ stakes
unfolding committee_of
stakes_same stakes c is = go (length stakes == 0) (nat_lt 64 (length stakes)) (zero_from 0 stakes) is
  where
    go : (a b : Bool) (z : Option ℕ) → cond a (Err refusal.NoMembers) (cond b (Err refusal.TooManyMembers) (without_zero stakes z)) ≡ Ok c → c ≡ stakes
    go true b z e = absurd (cc)
    go false true z e = absurd (cc)
    go false false (Some m) e = absurd (cc)
    go false false None e = cc

few_stakes : (stakes c : List ℕ) → committee_of stakes ≡ Ok c → length stakes ≤ 64
unfolding committee_of
few_stakes stakes c is = go (length stakes == 0) (nat_lt 64 (length stakes)) refl is
  where
    go : (a b : Bool) → nat_lt 64 (length stakes) ≡ b → cond a (Err refusal.NoMembers) (cond b (Err refusal.TooManyMembers) (without_zero stakes (zero_from 0 stakes))) ≡ Ok c → length stakes ≤ 64
    go true b n e = absurd (cc)
    go false true n e = absurd (cc)
    go false false n e = let a = ltb-false 64 (length stakes) n in omega arith

pub as_many : (lines : List Setup) → length (honest_of lines) ≡ length (stakes_of lines)
as_many [] = refl
as_many (line.Member stake honest ∷ lines) = ap suc (as_many lines)
as_many (line.Coin name who balance ∷ lines) = as_many lines
as_many (line.Counter name value ∷ lines) = as_many lines
as_many (line.Cap name who currency ∷ lines) = as_many lines
as_many (line.Writers n ∷ lines) = as_many lines

pub few_flags : (lines : List Setup) (flags : List Bool) (c : List ℕ) → committee_of (stakes_of lines) ≡ Ok c → flags ≡ honest_of lines → length flags ≤ 64
few_flags lines flags c is same =
    let few : length (stakes_of lines) ≤ 64 = few_stakes (stakes_of lines) c is in
    subst (λ n. n ≤ 64) (sym (ap (λ (xs : List Bool). length xs) same ∙ as_many lines)) few

pub committee_whole : (stakes c : List ℕ) → committee_of stakes ≡ Ok c → committee_of stakes ≡ Ok stakes
committee_whole stakes c is = is ∙ ap (λ xs. Ok xs) (stakes_same stakes c is)

-- ---- a transaction of a line

pub on_ok : {A E : Type 0} (P : Type 0) (result : Result A E) → P → OnOk result P
on_ok P (Ok a) p = p
on_ok P (Err e) p = tt

abbrev with_known : Scene → Known → Scene
with_known sc known = record sc { known = known }

pub tx_made : (trust : Trust) (v sc : Scene) (l : TxLine) (t : Made) (known : Known) → v ≡ sc → t ≡ line_made v.known (held_in v.posts) trust.seal l → known ≡ with_line v.known l t → with_known v known ≡ with_tx trust sc l
tx_made trust v sc l t known same is now =
    subst (λ (x : Scene). with_known v known ≡ with_tx trust x l) same
    (ap (with_known v) (now ∙ ap (with_line v.known l) is))
