use Rattle.std.proofs.Common.{◌∙◌, ℕ, ◌-◌, List, ◌++◌, ◌∷◌, [], length, map, refl, ap, arith}
use Rattle.std.proofs.lemmas.List.{map-append}
use Rattle.aria_journal.specs.declared.opened.Frame.{Frame}
use Rattle.aria_journal.proofs.PageReads.{frame_size, frame_shorter, frames_go_on, frames_end}
use Rattle.aria_journal.proofs.Places.{byte_within, pages_go_on, pages_end}
use Rattle.aria_journal.proofs.reading.push_frames.Goals as goal

pub page_of-page-requires : goal.page_of-page-requires
page_of-page-requires c = record {
  within =
      let size = frame_size c.loop-frame.rest.now (c.in-Some.frame.now, c.in-Some.behind.now) c.in-Some.ensures in
      byte_within c.args.first _ c.args.bytes.now c.loop-frame.rest.now c.requires.within (omega (arith, size)) c.loop-frame.invariant.within refl;
}

pub loop-frame-smaller : goal.loop-frame-smaller
loop-frame-smaller c = frame_shorter c.loop-frame.rest.now (c.in-Some.frame.now, c.in-Some.behind.now) c.in-Some.ensures

pub loop-frame-preserved : goal.loop-frame-preserved
loop-frame-preserved c =
    let size = frame_size c.loop-frame.rest.now (c.in-Some.frame.now, c.in-Some.behind.now) c.in-Some.ensures in record {
      within = omega (arith, size, c.loop-frame.invariant.within);
      frames = frames_go_on c.loop-frame.rest.now c.in-Some.frame.now c.in-Some.behind.now (map (λ (f : Frame). f.bytes) c.loop-frame.frames) (map (λ (f : Frame). f.bytes) c.push.new.self) _ c.in-Some.ensures
          (ap (map (λ (f : Frame). f.bytes)) c.in_ok-push.ensures.ok ∙ map-append (λ (f : Frame). f.bytes) c.loop-frame.frames _ ∙ ap (λ (item : List ℕ). map (λ (f : Frame). f.bytes) c.loop-frame.frames ++ item ∷ []) c.in_ok-frame.ensures)
          c.loop-frame.invariant.frames;
      starts = pages_go_on c.args.first c.args.bytes.now c.loop-frame.rest.now c.in-Some.frame.now c.in-Some.behind.now (map (λ (f : Frame). f.page) c.loop-frame.frames) (map (λ (f : Frame). f.page) c.push.new.self) _ _ c.in-Some.ensures
          c.loop-frame.invariant.within c.page_of-page.ensures (ap (map (λ (f : Frame). f.page)) c.in_ok-push.ensures.ok ∙ map-append (λ (f : Frame). f.page) c.loop-frame.frames _) c.loop-frame.invariant.starts;
    }

pub returns-clause-frames : goal.returns-clause-frames
returns-clause-frames c = frames_end c.loop-frame.rest.now (map (λ (f : Frame). f.bytes) c.loop-frame.frames) _ c.in_default.ensures c.loop-frame.invariant.frames

pub returns-clause-starts : goal.returns-clause-starts
returns-clause-starts c = pages_end c.args.first (length c.args.bytes.now - length c.loop-frame.rest.now) c.loop-frame.rest.now (map (λ (f : Frame). f.page) c.loop-frame.frames) _ c.in_default.ensures c.loop-frame.invariant.starts
