use Rattle.wire_bcs.proofs.reader.+uleb_rest_of.Given as goal

abbrev pub decreases-uleb_rest_of : goal.decreases-uleb_rest_of
decreases-uleb_rest_of l = l.more
