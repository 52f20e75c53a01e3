use Rattle.std.proofs.Common.{◌≡◌, ◌∙◌, ◌+◌, ◌*◌, ◌/◌, ◌<◌, ℕ, Some, refl, sym, ap, arith, subst}
use Rattle.aria_host.specs.Folder.{Folder}
use Rattle.aria_log.specs.Pieces.{Piece, log_files}
use Rattle.aria_record.specs.Logged.{lsn_at_place}
use Rattle.aria_log.specs.Log.{place}
use Rattle.aria_log.specs.Reading.{seen, entries_of_runs}
use Rattle.aria_log.specs.Stepping.{shown, RunsFrom}
use Rattle.aria_host.proofs.Moments.{unchanged_now, unchanged_after}
use Rattle.aria_log.proofs.Looking.{reader_at}
use Rattle.aria_log.proofs.FirstRun.{runs_start, runs_page, run_found, run_passed, run_none}
use Rattle.aria_log.proofs.log.Log.first_run.Goals as goal

pub loop-number-init : goal.loop-number-init
loop-number-init g c = record {
  low = omega (arith, c.place_of_lsn-number.ensures.low);
  reader = c.requires.reader;
  same = λ told. unchanged_now (g.H.Host.state c.args.host.now);
  runs = λ told n front is from.
      let at = c.place_of_lsn-number.ensures.place (8176 * n) from in
      subst (λ (k : ℕ). RunsFrom c.args.self.now (log_files (g.H.Host.state c.args.host.now).folder) (entries_of_runs n front) k)
      (let same : n ≡ c.place_of_lsn-number.result / 8176 = omega (arith, at) in same) (runs_start c.args.self.now (log_files (g.H.Host.state c.args.host.now).folder) n front is);
  disk = refl;
  tell = refl;
}

pub load-requires-clause-valid : goal.load-requires-clause-valid
load-requires-clause-valid g c = λ told.
    let (n, front, is, from) = c.requires.front told in
    let (piece, at) =
    runs_page c.args.self.now (log_files (g.H.Host.state c.args.host.now).folder) (entries_of_runs n front) c.loop-number.number (c.loop-number.invariant.runs told n front is from) (omega (arith, c.loop-number-test.true, c.place.ensures)) in
    (piece, ap (λ (f : Folder). seen c.args.self.now (log_files f) c.loop-number.number) (c.loop-number.invariant.same told).folder ∙ at)

pub returns-then-begins-clause-run : goal.returns-then-begins-clause-run
returns-then-begins-clause-run g c = λ told n front is from.
    let files = log_files (g.H.Host.state c.args.host.now).folder in
    let runs = c.loop-number.invariant.runs told n front is from in
    let (piece, at) = runs_page c.args.self.now files (entries_of_runs n front) c.loop-number.number runs (omega (arith, c.loop-number-test.true, c.place.ensures)) in
    let held : shown c.args.self.now c.load.new.reader c.loop-number.number ≡ Some piece =
    c.in_ok-load.ensures.loaded told ∙ ap (λ (f : Folder). seen c.args.self.now (log_files f) c.loop-number.number) (c.loop-number.invariant.same told).folder ∙ at in (
      8176 * c.loop-number.number,
      run_found c.args.self.now files (entries_of_runs n front) c.loop-number.number piece c.bytes.ensures.len runs at (sym (c.begins.ensures piece held) ∙ c.if-begins.true),
      c.lsn_of_place.ensures ∙ ap lsn_at_place (let same : c.loop-number.number * 8176 ≡ 8176 * c.loop-number.number = omega arith in same),
    )

pub loop-number-preserved : goal.loop-number-preserved
loop-number-preserved g c = record {
  low = omega (arith, c.loop-number-test.true, c.place.ensures);
  reader = λ told. reader_at c.load.new.reader (g.H.Host.state c.loop-number.host) (g.H.Host.state c.args.host.now) (c.loop-number.invariant.same told).folder (c.in_ok-load.ensures.reader told);
  same = λ told. unchanged_after _ _ _ (c.loop-number.invariant.same told) (c.in_ok-load.ensures.same told);
  runs = λ told n front is from.
      let files = log_files (g.H.Host.state c.args.host.now).folder in
      let runs = c.loop-number.invariant.runs told n front is from in
      let (piece, at) = runs_page c.args.self.now files (entries_of_runs n front) c.loop-number.number runs (omega (arith, c.loop-number-test.true, c.place.ensures)) in
      let held : shown c.args.self.now c.load.new.reader c.loop-number.number ≡ Some piece =
      c.in_ok-load.ensures.loaded told ∙ ap (λ (f : Folder). seen c.args.self.now (log_files f) c.loop-number.number) (c.loop-number.invariant.same told).folder ∙ at in
      run_passed c.args.self.now files (entries_of_runs n front) c.loop-number.number piece c.bytes.ensures.len runs at (sym (c.begins.ensures piece held) ∙ c.if-begins.false);
  disk = c.in_ok-load.ensures.cause.calm ∙ c.loop-number.invariant.disk;
  tell = c.in_ok-load.ensures.cause.tell ∙ c.loop-number.invariant.tell;
}

pub returns-clause-run : goal.returns-clause-run
returns-clause-run g c = λ told n front is from. (
  place c.args.self.now,
  run_none c.args.self.now (log_files (g.H.Host.state c.args.host.now).folder) (entries_of_runs n front) c.loop-number.number (c.loop-number.invariant.runs told n front is from) (omega (arith, c.loop-number-test.false, c.place.ensures)),
  c.end.ensures.is,
)
