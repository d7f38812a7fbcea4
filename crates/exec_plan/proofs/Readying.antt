-- What is ready after a list of executions, and when it is not.
use Rattle.std.proofs.Common.{◌≡◌, Bool, true, false, cond, not, ◌&&◌, List, Option, Some, None, refl, ap, sym, subst}
use Rattle.chain_types.specs.declared.objects.Object.{Object}
use Rattle.protocol_spec.specs.declared.pieces.Executed.{Executed}
use Rattle.protocol_spec.specs.declared.answers.Held.{Held}
use Rattle.protocol_spec.specs.Chain.Words.{where_true}
use Rattle.protocol_spec.specs.Chain.Keys.{fits}
use Rattle.protocol_spec.proofs.ListLemmas.{and-first, not-true}
use Rattle.protocol_spec.specs.Block.Execution.{execution, written_keys}
use Rattle.protocol_spec.specs.Member.Versions.{Execution, is_executed, versions}
use Rattle.protocol_spec.specs.Member.Admission.{Admission}
use Rattle.protocol_spec.specs.Member.Rounds.{Books, executes_as, may_run, present, ready, ready_as, ready_on, writes_new}
use Rattle.version_store.specs.Stores.{Stored}
use Rattle.exec_plan.specs.Books.{books_of, ready_in}

-- of the books, only the opening objects and the admission count
pub ready_alike : (s : Stored) (a : Admission) (held : List Held) (h : Held) → ready_in s a h ≡ ready (books_of s a held) s.executed h
unfolding ready present
ready_alike s a held h = refl

-- what is ready was not executed, is executed under its digest, and writes what is new
pub record IsReady (b : Books) (executed : List Execution) (h : Held) (x : Execution) : Type 0 where
  pub first : is_executed executed h.digest ≡ false
  pub named : x.digest ≡ h.digest
  pub new : writes_new (versions b.opening executed) (written_keys x.gave) ≡ true

pub is_ready : (b : Books) (executed : List Execution) (h : Held) (x : Execution) → ready b executed h ≡ Some x → IsReady b executed h x
unfolding ready
is_ready b executed h x e = go (not (is_executed executed h.digest) && may_run b h) refl (present b executed h) e
  where
    writing : (gave : Executed) (w : Bool) → writes_new (versions b.opening executed) (written_keys gave) ≡ w → is_executed executed h.digest ≡ false
        → where_true w (executes_as h gave) ≡ Some x → IsReady b executed h x
    writing gave false new first e = absurd (cc)
    writing gave true new first e = record {
      first = first;
      named = ap (λ (y : Execution). y.digest) (sym (same e));
      new = subst (λ (y : Execution). writes_new (versions b.opening executed) (written_keys y.gave) ≡ true) (same e) new;
    }
      where
        same : Some (executes_as h gave) ≡ Some x → executes_as h gave ≡ x
        same e = cc

    fitting : (objects : List Object) (f : Bool) → is_executed executed h.digest ≡ false → cond f (ready_as b executed h (execution h.cert.tx objects)) None ≡ Some x → IsReady b executed h x
    fitting objects false first e = absurd (cc)
    fitting objects true first e = writing (execution h.cert.tx objects) (writes_new (versions b.opening executed) (written_keys (execution h.cert.tx objects))) refl first e

    go : (y : Bool) → (not (is_executed executed h.digest) && may_run b h) ≡ y → (p : Option (List Object)) → cond y (ready_on b executed h p) None ≡ Some x → IsReady b executed h x
    go false may p e = absurd (cc)
    go true may None e = absurd (cc)
    go true may (Some objects) e = fitting objects (fits h.cert.tx objects) (not-true (is_executed executed h.digest) (and-first (not (is_executed executed h.digest)) (may_run b h) may)) e
