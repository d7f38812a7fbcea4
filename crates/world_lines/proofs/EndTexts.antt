-- What the bytes of an entry are read as: an End if it is one, when its values are those of their types.
use Rattle.std.proofs.Common.{◌≡◌, ◌∙◌, ap, refl, ℕ, Bool, true, false, cond, List, [], ◌∷◌, length, map, Option, None, Result, Ok, Err, inl}
use Rattle.std.specs.Prelude.{◌==◌}
use Rattle.std.specs.List.{cons_option, filter_map}
use Rattle.wire_bcs.specs.Place.{Place, Read, Stop, forward, left, start, stop, ◌>>=◌}
use Rattle.wire_bcs.specs.Uleb.{uleb, uleb_below}
use Rattle.wire_bcs.specs.Whole.{end_at, whole, whole-only}
use Rattle.chain_messages.specs.Messages.{EntryParts, entry_from}
use Rattle.chain_messages.specs.Messages as messages
use Rattle.chain_messages.specs.declared.messages.Certificate.{Certificate}
use Rattle.chain_messages.specs.declared.messages.Entry.{Entry}
use Rattle.chain_messages.specs.declared.messages.Entry.TheVariants as entry
use Rattle.chain_messages.specs.declared.messages.MemberSeal.{MemberSeal}
use Rattle.protocol_spec.specs.Chain.Certificates.{read_as, read_entry}
use Rattle.protocol_spec.specs.Chain.Words.{Each}
use Rattle.world_lines.specs.Ends.{end_in, end_of_read, end_read, ends_read}

-- ---- what is encoded is read back, if it fits

end_spelled : (epoch : ℕ) (e : Entry) → messages.entry.fits e → end_read epoch (messages.entry.spell e) ≡ end_in epoch e
unfolding end_read read_entry
end_spelled epoch e fits = ap (λ (r : Result Entry Stop). end_of_read epoch (read_as r)) (whole-only messages.entry (messages.entry.spell e) e fits refl)

pub ends_spelled : (epoch : ℕ) (entries : List Entry) → Each messages.entry.fits entries → ends_read epoch (map messages.entry.spell entries) ≡ filter_map (end_in epoch) entries
ends_spelled epoch [] fit = refl
ends_spelled epoch (e ∷ entries) fit =
    ap (λ (x : Option MemberSeal). cons_option x (ends_read epoch (map messages.entry.spell entries))) (end_spelled epoch e fit.0)
    ∙ ap (λ (xs : List MemberSeal). cons_option (end_in epoch e) xs) (ends_spelled epoch entries fit.1)

-- ---- a certificate and a mark are never read as an End, whatever their values

module _ (epoch : ℕ) where
  abbrev cert_part : Certificate × Place → Read EntryParts
  cert_part x = Ok (inl x.0, x.1)

  abbrev whole_entry : Read EntryParts → Result Entry Stop
  whole_entry parts = (parts >>= λ y. Ok (entry_from y.0, y.1)) >>= λ x. end_at x

  ended_cert : (b : Bool) (c : Certificate) (q : Place) → end_of_read epoch (read_as (cond b (Ok (entry.Cert c)) (stop q 7))) ≡ None
  ended_cert true c q = refl
  ended_cert false c q = refl

  read_cert : (r : Read Certificate) → end_of_read epoch (read_as (whole_entry (r >>= cert_part))) ≡ None
  read_cert (Err fault) = refl
  read_cert (Ok (c, q)) = ended_cert (length (left q) == 0) c q

  pub no_end_in_cert : (c : Certificate) → end_read epoch (messages.entry.spell (entry.Cert c)) ≡ None
  unfolding end_read read_entry whole messages.entry uleb uleb_below
  no_end_in_cert c = read_cert (messages.certificate.read (forward 1 (start (messages.entry.spell (entry.Cert c)))))

  pub no_end_in_mark : end_read epoch (messages.entry.spell entry.Commit) ≡ None
  unfolding end_read read_entry whole messages.entry uleb uleb_below
  no_end_in_mark = refl
