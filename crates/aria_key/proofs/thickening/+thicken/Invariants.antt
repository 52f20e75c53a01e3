use Rattle.aria_key.proofs.thickening.+thicken.Given as goal

abbrev pub decreases-thicken : goal.decreases-thicken
decreases-thicken g l = l.path.len
