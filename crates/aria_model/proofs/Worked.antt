-- Worked scripts, by computing.
use Rattle.std.proofs.Common.{◌≡◌, refl, Ok, Err}
use Rattle.std.specs.Prelude.{codes, Some}
use Rattle.std.specs.Fmt.{digits}
use Rattle.aria_model.specs.Grammar.{read_line}
use Rattle.aria_model.specs.World.{empty_world}
use Rattle.aria_model.specs.Script.{told, lines_of, no_exception}
use Rattle.aria_model.specs.declared.statement.Statement.TheVariants.{Drop}
use Rattle.aria_model.specs.declared.refusal.Refusal.TheVariants.{BadStatement, NumberTooWide, BadDefinition}
use Rattle.aria_model.specs.declared.refusal.Which.TheVariants as which

drop_t : read_line (codes "drop t") ≡ Ok (Some (Drop (codes "t")))
unfolding read_line
drop_t = refl

select_alone : read_line (codes "select") ≡ Err (BadStatement 6)
unfolding read_line
select_alone = refl

at_k : read_line (codes "create a trans keys k(a)") ≡ Err (BadStatement 20)
unfolding read_line
at_k = refl

wide : read_line (codes "insert t (9223372036854775808)") ≡ Err (NumberTooWide 10)
unfolding read_line
wide = refl

packed : read_line (codes "create s packed a:int keys k(a)") ≡ Err (BadDefinition which.Packed)
unfolding read_line
packed = refl

spatial : read_line (codes "create s trans a:int keys k(a):spatial") ≡ Err (BadDefinition which.Spatial)
unfolding read_line
spatial = refl

entry : read_line (codes "create s trans a:text(499) keys k(a)") ≡ Err (BadDefinition which.Entry)
unfolding read_line
entry = refl

by_two_keys : told empty_world (lines_of (codes "create n trans id:int a:text(5) keys k1(id) k2(a)\ninsert n (3,'x') (1,'x') (2,null) (4,'')\ndelete n k2 ('x')\nselect n k2\ndrop n\ndrop n\n")) no_exception
    ≡ codes "ok\nok 4\nok 2\nrow 2,null\nrow 4,''\nok 2\nok\nno table n\n"
unfolding read_line digits
by_two_keys = refl

sets : told empty_world (lines_of (codes "create t trans id:int name:text(20) keys k1(id) k2(name)\ninsert t (2,'b') (1,'a')\nupdate t k1 (1) set name='q'\ndelete t k2 ('b')\ndelete t k1 (9)\nselect t k1\nupdate t k9 set name=null\nupdate t k1 set foo=1\nupdate t k1 set id=null\n")) no_exception
    ≡ codes "ok\nok 2\nok 1\nok 1\nok 0\nrow 1,'q'\nok 1\nno key k9\nno column foo\nno bad value id\n"
unfolding read_line digits
sets = refl
