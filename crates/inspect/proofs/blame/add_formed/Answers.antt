use Rattle.std.proofs.Common.{◌∙◌, ◌+◌, List, None, Some, ap, drop, fold, map, subst, sym, ℕ}
use Rattle.std.specs.Prelude.{option_copied}
use Rattle.chain_messages.specs.declared.messages.Certificate.{Certificate}
use Rattle.protocol_spec.specs.Chain.Certificates.{rules_of}
use Rattle.world_spec.specs.Names.{cert_in}
use Rattle.inspect.specs.Certified.{with_valid}
use Rattle.inspect.specs.Found.{AreFound}
use Rattle.inspect.proofs.Finding.{all_formed, one_formed}
use Rattle.inspect.proofs.blame.add_formed.Goals as goal

pub returns-in_default-clause-certs : goal.returns-in_default-clause-certs
returns-in_default-clause-certs g c =
    all_formed (rules_of c.args.world.now.terms.stakes None (g.S.Checker.accepts c.args.sealer.now)) c.loop-place.found.certs c.args.world.now.certs c.loop-place.place
    (sym c.certificate.ensures.value ∙ ap option_copied c.in_default.is) ∙ c.loop-place.invariant.certs

pub loop-place-preserved : goal.loop-place-preserved
loop-place-preserved g c =
    let rules = rules_of c.args.world.now.terms.stakes None (g.S.Checker.accepts c.args.sealer.now) in
    record {
      certs =
          ap (λ (certs : List Certificate). fold (with_valid rules) certs (map cert_in (drop (c.loop-place.place + 1) c.args.world.now.certs)))
          (c.in_ok-add.ensures.certs ∙ ap (λ (stakes : List ℕ). with_valid (rules_of stakes None (g.S.Checker.accepts c.args.sealer.now)) c.loop-place.found.certs c.in_ok-cert.cert) c.committee.ensures)
          ∙ one_formed rules c.loop-place.found.certs c.args.world.now.certs c.loop-place.place c.in_ok-cert.cert (sym c.in-Some.ensures.value ∙ ap Some (sym c.in_ok-cert.ensures)) ∙ c.loop-place.invariant.certs;
      found = subst (λ (stakes : List ℕ). AreFound stakes c.add.new.self.certs c.add.new.self.spelled) c.committee.ensures c.in_ok-add.ensures.found;
    }
