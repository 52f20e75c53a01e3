-- Lines of a log that are executed anew.
use Rattle.std.proofs.Common.{◌≡◌, ℕ, suc, ◌+◌, ◌<◌, Bool, true, false, cond, Option, None, Some, List, [], ◌∷◌, ◌++◌, length, take, drop, map, get_or, refl, sym, ◌∙◌, ap, subst, arith}
use Rattle.std.specs.Option.{option_map}
use Rattle.std.proofs.lemmas.List.{length-take, length-map, take_more, take-append-drop}
use Rattle.std.proofs.lemmas.Option.{slice_get-map, slice_get-get_or}
use Rattle.std.proofs.Math.Seq.{drop-cons}
use Rattle.aria_journal.specs.declared.opened.Frame.{Frame}
use Rattle.aria_model.specs.World.{World, empty_world}
use Rattle.aria_model.specs.Step.{option_suc, step}
use Rattle.aria_model.specs.Script.{no_exception, world_after}
use Rattle.aria_model.specs.Journal.{is_change, first_no_change}
use Rattle.aria_model.proofs.Scripts.{world_after-append}
use Rattle.aria_model.proofs.Journal.{first_no_change-push}
use Rattle.aria_engine.specs.Opening.{Redoes, Replays, FailsAt}

-- a number is given or isn't
some_or_none : (n : ℕ) (o : Option ℕ) → o ≡ Some n → o ≡ None → ⊥
some_or_none n o some none = cc

-- behind lines that all change tables comes one that doesn't
fails_behind : (w : World) (lines : List (List ℕ)) (line : List ℕ) (more : List (List ℕ)) → first_no_change w lines ≡ None → is_change (world_after w lines no_exception) line None ≡ false
    → first_no_change w (lines ++ line ∷ more) ≡ Some (length lines)
fails_behind w [] line more none no' = ap (λ (b : Bool). cond b (option_suc (first_no_change (step w line None).world more)) (Some 0)) no'
fails_behind w (first ∷ lines) line more none no' =
    by (λ h. fails_behind (step w first None).world lines line more h no') (is_change w first None) refl (first_no_change (step w first None).world lines) refl
  where
    next : World
    next = (step w first None).world

    by : (first_no_change (step w first None).world lines ≡ None → first_no_change (step w first None).world (lines ++ line ∷ more) ≡ Some (length lines))
        → (b : Bool) → is_change w first None ≡ b → (o : Option ℕ) → first_no_change (step w first None).world lines ≡ o
        → first_no_change w ((first ∷ lines) ++ line ∷ more) ≡ Some (suc (length lines))
    by rest true here None is =
        ap (λ (b : Bool). cond b (option_suc (first_no_change (step w first None).world (lines ++ line ∷ more))) (Some 0)) here ∙ ap option_suc (rest is)
    by rest true here (Some n) is =
        absurd (some_or_none (suc n) _ (ap (λ (b : Bool). cond b (option_suc (first_no_change (step w first None).world lines)) (Some 0)) here ∙ ap option_suc is) none)
    by rest false here o is =
        absurd (some_or_none 0 _ (ap (λ (b : Bool). cond b (option_suc (first_no_change (step w first None).world lines)) (Some 0)) here) none)

abbrev lines_of : List Frame → List (List ℕ)
lines_of frames = map (λ (f : Frame). f.bytes) frames

lines_more : (frames : List Frame) (i : ℕ) (frame : Frame) → i < length frames → frame ≡ get_or frames i frame → lines_of (take (i + 1) frames) ≡ lines_of (take i frames) ++ frame.bytes ∷ []
lines_more frames i frame below is =
    ap lines_of (take_more frames i frame below) ∙ map_behind (take i frames) (get_or frames i frame) ∙ ap (λ (f : Frame). lines_of (take i frames) ++ f.bytes ∷ []) (sym is)
  where
    map_behind : (front : List Frame) (f : Frame) → lines_of (front ++ f ∷ []) ≡ lines_of front ++ f.bytes ∷ []
    map_behind [] f = refl
    map_behind (x ∷ front) f = ap (λ (l : List (List ℕ)). x.bytes ∷ l) (map_behind front f)

-- one line more changed the tables
pub replays_next : (frames : List Frame) (i : ℕ) (frame : Frame) (old new : World) (changed : Bool) → i < length frames → frame ≡ get_or frames i frame
    → Replays (lines_of (take i frames)) old → Redoes frame.bytes old new changed → changed ≡ true → Replays (lines_of (take (i + 1) frames)) new
replays_next frames i frame old new changed below is so_far redoes yes' =
    let lines : List (List ℕ) = lines_of (take i frames) in
    subst (λ (ls : List (List ℕ)). Replays ls new) (sym (lines_more frames i frame below is)) (record {
      changes = first_no_change-push empty_world lines frame.bytes so_far.changes (ap (λ (w : World). is_change w frame.bytes None) (sym so_far.leaves) ∙ sym redoes.is ∙ yes');
      leaves = redoes.world yes' ∙ ap (λ (w : World). (step w frame.bytes None).world) so_far.leaves ∙ sym (world_after-append empty_world lines (frame.bytes ∷ []) no_exception);
    })

in_parts : (frames : List Frame) (i : ℕ) (frame : Frame) → i < length frames → frame ≡ get_or frames i frame → lines_of frames ≡ lines_of (take i frames) ++ frame.bytes ∷ lines_of (drop (suc i) frames)
in_parts frames i frame below is =
    ap lines_of (sym (take-append-drop i frames) ∙ ap (λ (l : List Frame). take i frames ++ l) (drop-cons frames i frame below ∙ ap (λ (f : Frame). f ∷ drop (suc i) frames) (sym is)))
    ∙ map_append (take i frames) (frame ∷ drop (suc i) frames)
  where
    map_append : (a b : List Frame) → lines_of (a ++ b) ≡ lines_of a ++ lines_of b
    map_append [] b = refl
    map_append (x ∷ a) b = ap (λ (l : List (List ℕ)). x.bytes ∷ l) (map_append a b)

-- this line changed nothing
pub fails_here : (frames : List Frame) (i : ℕ) (frame : Frame) (old new : World) (changed : Bool) → i < length frames → frame ≡ get_or frames i frame
    → Replays (lines_of (take i frames)) old → Redoes frame.bytes old new changed → changed ≡ false → FailsAt (lines_of frames) (map (λ (f : Frame). f.page) frames) frame.page
fails_here frames i frame old new changed below is so_far redoes no' =
    let lines : List (List ℕ) = lines_of (take i frames) in
    let size : length lines ≡ i = length-map (take i frames) (λ (f : Frame). f.bytes) ∙ length-take i frames ∙ omega (arith, below) in
    record {
      nth = i;
      line = ap (first_no_change empty_world) (in_parts frames i frame below is)
          ∙ fails_behind empty_world lines frame.bytes (lines_of (drop (suc i) frames)) so_far.changes (ap (λ (w : World). is_change w frame.bytes None) (sym so_far.leaves) ∙ sym redoes.is ∙ no')
          ∙ ap Some size;
      begins = slice_get-map (λ (f : Frame). f.page) frames i ∙ ap (option_map (λ (f : Frame). f.page)) (slice_get-get_or frames i frame below ∙ ap Some (sym is));
    }
