use Rattle.aria_block.proofs.deleting.+free_all.Given as goal

abbrev pub decreases-free_all : goal.decreases-free_all
decreases-free_all g l = l.n
