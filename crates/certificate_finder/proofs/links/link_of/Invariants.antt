use Rattle.certificate_finder.specs.Offering.{IsLink}
use Rattle.certificate_finder.proofs.links.link_of.Given as goal

-- no put from here on can be read longer
abbrev pub invariant-loop-link : goal.invariant-loop-link
invariant-loop-link l = IsLink l.puts l.index l.link

abbrev pub decreases-loop-link : goal.decreases-loop-link
decreases-loop-link l = l.link
