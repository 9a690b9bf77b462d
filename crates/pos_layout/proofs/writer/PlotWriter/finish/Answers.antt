use Rattle.std.proofs.lemmas.Result.{err_from_is_err_and}
use Rattle.std.proofs.Common.{Ok, ◌≡◌, ◌≤◌, min, length, drop, take, refl, sym, ap, ◌∙◌, subst, arith}
use Rattle.std.proofs.lemmas.List.{take_all, length-take, length-drop}
use Rattle.pos_layout.specs.declared.header.Header.{Header}
use Rattle.pos_layout.specs.Fields.{header_bytes}
use Rattle.pos_layout.specs.Files.{file_of}
use Rattle.pos_edge.specs.Images.{written}
use Rattle.pos_gate.specs.Gates.{opened}
use Rattle.pos_layout.specs.Images.{Holds, IsShutOr}
use Rattle.pos_layout.specs.Writing.{Works}
use Rattle.pos_gate.proofs.WorksLemmas.{works_exit, works_ok}
use Rattle.pos_layout.specs.Drafts.{Stands, plot_of, draft_bytes}
use Rattle.pos_layout.specs.contracts.writer.PlotWriter.{the_view}
use Rattle.pos_layout.proofs.WriterLemmas.{all_ended, finished_header, finished_file, plot_from_draft, length-draft, length-opened}
use Rattle.pos_layout.proofs.FilePlots.{file_memo, file_stores}
use Rattle.pos_layout.proofs.writer.PlotWriter.finish.Goals as goal

pub returns-in_err-finish_shut-clause-works : goal.returns-in_err-finish_shut-clause-works
returns-in_err-finish_shut-clause-works g c = λ p stands.
    let w = the_view c.self.inside in
    let v = g.D.Disk.view c.args.disk.now in
    let s : Stands w p v = rw (← c.self.view_is) at stands in
    let seven : length w.columns ≡ 7 = rw (← c.self.view_is) at c.requires.tables in
    let whole : length c.self.inside.columns ≡ 7 = c.self.invariant.1 in
    let t : length w.columns ≡ min c.self.inside.ended (length c.self.inside.columns) = length-take c.self.inside.ended c.self.inside.columns in
    let columns : c.self.inside.columns ≡ w.columns = sym (take_all c.self.inside.ended c.self.inside.columns (omega arith)) in
    let b = draft_bytes p s.parks in
    let long : 176 ≤ length b = let n = length-draft p s.parks in omega arith in
    let header = take 175 (drop 1 c.encode_header-bytes.result) in
    let bytes_length = c.encode_header-bytes.ensures.len in
    let after : length (drop 1 c.encode_header-bytes.result) ≡ 175 = length-drop 1 c.encode_header-bytes.result ∙ omega arith in
    let header_is : header ≡ drop 1 c.encode_header-bytes.result = take_all 175 (drop 1 c.encode_header-bytes.result) (omega arith) in
    let h : Header = record { layout = c.self.inside.layout; id = c.self.inside.id; size = c.self.inside.size; memo_length = c.self.inside.memo_length; columns = c.self.inside.columns; file_length = c.self.inside.file_length } in
    let is : opened (written 1 header b) ≡ file_of p.layout p.memo (plot_of p) =
    finished_file w p v h header s seven (finished_header w p v c.self.inside.id.0 c.self.inside.size c.self.inside.layout c.self.inside.memo_length c.self.inside.columns c.self.inside.file_length s seven refl refl refl refl columns refl)
    (header_is ∙ ap (drop 1) (c.encode_header-bytes.ensures.bytes ∙ ap (λ l. header_bytes l 0 h) s.keeps.layout)) (ap length header_is ∙ after) in
    let p' = err_from_is_err_and c.from_residual.result c.from_residual.ensures.1 in
    rw (← c.self.view_is) (subst (λ o. Works (IsShutOr o) w.file c.from_residual.result v (g.D.Disk.view c.finish_shut.new.disk)) is
    (works_exit (IsShutOr (opened (written 1 header b))) w.file c.from_residual.result p'.0 c.in_err-finish_shut.field-0.0 v (g.D.Disk.view c.finish_shut.new.disk) p'.1 p'.2 (c.in_err-finish_shut.ensures.works b s.keeps.file long)))

pub returns-clause-works : goal.returns-clause-works
returns-clause-works g c = λ p stands.
    let w = the_view c.self.inside in
    let v = g.D.Disk.view c.args.disk.now in
    let s : Stands w p v = rw (← c.self.view_is) at stands in
    let seven : length w.columns ≡ 7 = rw (← c.self.view_is) at c.requires.tables in
    let whole : length c.self.inside.columns ≡ 7 = c.self.invariant.1 in
    let t : length w.columns ≡ min c.self.inside.ended (length c.self.inside.columns) = length-take c.self.inside.ended c.self.inside.columns in
    let columns : c.self.inside.columns ≡ w.columns = sym (take_all c.self.inside.ended c.self.inside.columns (omega arith)) in
    let b = draft_bytes p s.parks in
    let long : 176 ≤ length b = let n = length-draft p s.parks in omega arith in
    let header = take 175 (drop 1 c.encode_header-bytes.result) in
    let bytes_length = c.encode_header-bytes.ensures.len in
    let after : length (drop 1 c.encode_header-bytes.result) ≡ 175 = length-drop 1 c.encode_header-bytes.result ∙ omega arith in
    let header_is : header ≡ drop 1 c.encode_header-bytes.result = take_all 175 (drop 1 c.encode_header-bytes.result) (omega arith) in
    let h : Header = record { layout = c.self.inside.layout; id = c.self.inside.id; size = c.self.inside.size; memo_length = c.self.inside.memo_length; columns = c.self.inside.columns; file_length = c.self.inside.file_length } in
    let is : opened (written 1 header b) ≡ file_of p.layout p.memo (plot_of p) =
    finished_file w p v h header s seven (finished_header w p v c.self.inside.id.0 c.self.inside.size c.self.inside.layout c.self.inside.memo_length c.self.inside.columns c.self.inside.file_length s seven refl refl refl refl columns refl)
    (header_is ∙ ap (drop 1) (c.encode_header-bytes.ensures.bytes ∙ ap (λ l. header_bytes l 0 h) s.keeps.layout)) (ap length header_is ∙ after) in
    rw (← c.self.view_is) (subst (λ o. Works (IsShutOr o) w.file (Ok c.self.inside.file_length) v (g.D.Disk.view c.finish_shut.new.disk)) is
    (works_ok (IsShutOr (opened (written 1 header b))) w.file _ c.self.inside.file_length v (g.D.Disk.view c.finish_shut.new.disk) (c.in_ok-finish_shut.ensures.works b s.keeps.file long)))

pub returns-clause-ok : goal.returns-clause-ok
returns-clause-ok g c = λ p stands.
    let w = the_view c.self.inside in
    let v = g.D.Disk.view c.args.disk.now in
    let s : Stands w p v = rw (← c.self.view_is) at stands in
    let seven : length w.columns ≡ 7 = rw (← c.self.view_is) at c.requires.tables in
    let whole : length c.self.inside.columns ≡ 7 = c.self.invariant.1 in
    let t : length w.columns ≡ min c.self.inside.ended (length c.self.inside.columns) = length-take c.self.inside.ended c.self.inside.columns in
    let columns : c.self.inside.columns ≡ w.columns = sym (take_all c.self.inside.ended c.self.inside.columns (omega arith)) in
    let b = draft_bytes p s.parks in
    let long : 176 ≤ length b = let n = length-draft p s.parks in omega arith in
    let header = take 175 (drop 1 c.encode_header-bytes.result) in
    let bytes_length = c.encode_header-bytes.ensures.len in
    let after : length (drop 1 c.encode_header-bytes.result) ≡ 175 = length-drop 1 c.encode_header-bytes.result ∙ omega arith in
    let header_is : header ≡ drop 1 c.encode_header-bytes.result = take_all 175 (drop 1 c.encode_header-bytes.result) (omega arith) in
    let h : Header = record { layout = c.self.inside.layout; id = c.self.inside.id; size = c.self.inside.size; memo_length = c.self.inside.memo_length; columns = c.self.inside.columns; file_length = c.self.inside.file_length } in
    let is : opened (written 1 header b) ≡ file_of p.layout p.memo (plot_of p) =
    finished_file w p v h header s seven (finished_header w p v c.self.inside.id.0 c.self.inside.size c.self.inside.layout c.self.inside.memo_length c.self.inside.columns c.self.inside.file_length s seven refl refl refl refl columns refl)
    (header_is ∙ ap (drop 1) (c.encode_header-bytes.ensures.bytes ∙ ap (λ l. header_bytes l 0 h) s.keeps.layout)) (ap length header_is ∙ after) in
    let bytes : Holds w.file (file_of p.layout p.memo (plot_of p)) (g.D.Disk.view c.finish_shut.new.disk) =
    subst (λ o. Holds w.file o (g.D.Disk.view c.finish_shut.new.disk)) is (c.in_ok-finish_shut.ensures.ok b s.keeps.file long) in
    let size : c.self.inside.file_length ≡ length (file_of p.layout p.memo (plot_of p)) = s.keeps.file_length ∙ (sym (length-opened header b (ap length header_is ∙ after) long) ∙ ap length is) in
    rw (← c.self.view_is) (record {
      size = size;
      bytes = bytes;
      stores = file_stores p.layout p.memo (plot_of p) s.keeps.draft.memo (plot_from_draft p s.keeps.draft (all_ended w p v s seven).0);
      says_memo = file_memo p.layout p.memo (plot_of p) s.keeps.draft.memo (plot_from_draft p s.keeps.draft (all_ended w p v s seven).0);
    })
