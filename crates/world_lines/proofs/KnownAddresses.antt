-- Addresses that are kept by name are those of their names.
use Rattle.std.proofs.Common.{◌≡◌, ◌∙◌, ap, sym, refl, subst, ℕ, Bool, true, false, cond, List, [], ◌∷◌, ◌++◌, Option, Some, None, is_some}
use Rattle.std.specs.Prelude.{bytes_eq}
use Rattle.std.proofs.lemmas.Slice.Eq.{bytes_eq-Decides}
use Rattle.digest_core.specs.declared.Digest.{Digest}
use Rattle.digest_core.specs.Tagged.{address_of_name}
use Rattle.tables.specs.Named.{Named, named, with_name}
use Rattle.tables.proofs.Lookups.{lookup_push, or_else}
use Rattle.world_lines.specs.Addressed.{AreAddresses}

pub none_known : (known : Named Digest) → known ≡ [] → AreAddresses known
none_known known is = subst AreAddresses (sym is) (λ name address found. absurd (cc))

pub one_known : (known : Named Digest) (name : List ℕ) (x : Digest) {new : Named Digest} → AreAddresses known → x ≡ address_of_name name → new ≡ with_name known name x → AreAddresses new
one_known known name x are is adds = subst AreAddresses (sym adds) (by (is_some (named known name)))
  where
    one : {a : Digest} → Some x ≡ Some a → x ≡ a
    one h = cc

    at : (n : List ℕ) (a : Digest) (o : Option Digest) (b : Bool) → named known n ≡ o → bytes_eq n name ≡ b → or_else o (cond b (Some x) None) ≡ Some a → a ≡ address_of_name n
    at n a (Some y) b old same found = are n a (old ∙ found)
    at n a None true old same found = sym (one found) ∙ is ∙ ap address_of_name (sym ((bytes_eq-Decides n name).0 same))
    at n a None false old same found = absurd (cc)

    by : (b : Bool) → AreAddresses (cond b known (known ++ (name, x) ∷ []))
    by true = are
    by false = λ n a found. at n a (named known n) (bytes_eq n name) refl refl (sym (lookup_push (bytes_eq n) known name x) ∙ found)
