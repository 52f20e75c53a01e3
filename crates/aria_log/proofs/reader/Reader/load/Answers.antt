use Rattle.std.proofs.Common.{◌≡◌, ◌∙◌, ap, sym, arith, is_some, length, ℕ}
use Rattle.std.specs.Option.{option_map_or}
use Rattle.aria_host.specs.declared.file_name.FileName.TheVariants.{Log}
use Rattle.aria_host.specs.Folder.{Folder, page_at}
use Rattle.aria_log.specs.LogPage.{read_log_page}
use Rattle.aria_log.specs.Pieces.{log_files, pieces_of}
use Rattle.aria_log.proofs.PageReads.{past_reads, page_reads, none_loaded, nothing_held}
use Rattle.aria_log.proofs.reader.Reader.load.Goals as goal

pub returns-then-page-self-clause-loaded : goal.returns-then-page-self-clause-loaded
returns-then-page-self-clause-loaded g c = λ told.
    none_loaded c.find_length.new.self.used c.find_length.new.self.begins c.find_length.new.self.page c.in_ok-find_length.ensures.used
    ∙ sym (past_reads (log_files (g.H.Host.state c.args.host.now).folder) c.args.number _ _ _ c.file_of-file.ensures.is c.page_of-page.ensures.is (c.in_ok-find_length.ensures.pages told) c.if-page-self.true)

pub returns-then-page-self-clause-valid : goal.returns-then-page-self-clause-valid
returns-then-page-self-clause-valid g c = sym (ap is_some (none_loaded c.find_length.new.self.used c.find_length.new.self.begins c.find_length.new.self.page c.in_ok-find_length.ensures.used))

pub returns-in_err-read_page-clause-reader : goal.returns-in_err-read_page-clause-reader
returns-in_err-read_page-clause-reader g c = λ told. record {
  page = λ piece e. absurd (nothing_held c.find_length.new.self.used c.find_length.new.self.begins c.read_page.new.into piece c.in_ok-find_length.ensures.used e);
  count = (c.in_ok-find_length.ensures.reader told).count;
}

pub returns-clause-loaded : goal.returns-clause-loaded
returns-clause-loaded g c = λ told.
    let old = (g.H.Host.state c.args.host.now).folder in
    let found = ap (λ (f : Folder). page_at (Log c.file_of-file.result) c.page_of-page.result f) (sym (c.in_ok-find_length.ensures.same told).folder) ∙ c.in_ok-read_page.ensures.page told in
    c.note.ensures.loaded ∙ sym (page_reads (log_files old) c.args.number _ _ c.read_page.new.into c.file_of-file.ensures.is c.page_of-page.ensures.is found)

pub returns-clause-reader : goal.returns-clause-reader
returns-clause-reader g c = λ told.
    let old = (g.H.Host.state c.args.host.now).folder in
    let found = ap (λ (f : Folder). page_at (Log c.file_of-file.result) c.page_of-page.result f) (sym (c.in_ok-find_length.ensures.same told).folder) ∙ c.in_ok-read_page.ensures.page told in
    let reads : pieces_of (log_files old) c.args.number ≡ read_log_page c.args.number c.read_page.new.into =
    page_reads (log_files old) c.args.number _ _ c.read_page.new.into c.file_of-file.ensures.is c.page_of-page.ensures.is found in
    record {
      page = λ piece e. ap (pieces_of (log_files old)) c.note.ensures.number ∙ reads ∙ sym c.note.ensures.loaded ∙ e;
      count = λ low. c.note.ensures.pages ∙ (c.in_ok-find_length.ensures.reader told).count (omega (arith, low, c.note.ensures.file))
          ∙ ap (λ (f : ℕ). option_map_or length (log_files old f) 0) (sym c.note.ensures.file);
    }
