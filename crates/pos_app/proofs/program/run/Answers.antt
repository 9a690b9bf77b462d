-- The command that was obeyed is the one that the words are, and the clauses follow from what it says.
use Rattle.std.proofs.Common.{◌≡◌}
use Rattle.std.specs.Prelude.{map, string_bytes, Some}
use Rattle.pos_app.specs.Command.{Command, Verify, MakePlot, Prove, Quality, Inspect, CheckPlot, Survey, Farm, command_of}
use Rattle.pos_app.specs.Obeyed.{SaysAnswer}
use Rattle.pos_app.specs.Read.{meant}
use Rattle.pos_app.proofs.AnswerLemmas.{says_answer-same, tells_answer-same}
use Rattle.pos_app.proofs.ListLemmas.{any_file, names_damage, no_false_proof, reads_for_proofs, reads_for_qualities}
use Rattle.pos_app.proofs.FarmLemmas.{names_no_false_proof, tells_list}
use Rattle.pos_app.proofs.InspectLemmas.{shows_header}
use Rattle.pos_app.proofs.CheckLemmas.{names_check_damage, reads_for_check, says_of_whole_check, says_the_summary}
use Rattle.pos_app.proofs.StatusLemmas.{never_usage, only_farm_lists, only_verify_refuses}
use Rattle.pos_app.proofs.SurveyingLemmas.{is_survey_status, survey_ends_safely, tells_survey}
use Rattle.pos_app.proofs.PlottingLemmas.{tells_plotting, is_plot_status, ends_safely}
use Rattle.pos_app.proofs.PlotLemmas.{says_of_whole_proofs, says_of_whole_qualities, says_the_proofs, says_the_qualities}
use Rattle.pos_app.proofs.program.run.Given.{Over}
use Rattle.pos_app.proofs.program.run.Goals as goal
use Rattle.pos_app.proofs.program.run.Goals.{After-obey}

obeyed : (g : Over) (c : After-obey g) → command_of (map string_bytes c.args.words.now) ≡ Some (meant c.in-Some.command)
obeyed g c = (rw c.in-Some.is at c.read_command.ensures).1

says : (g : Over) (c : After-obey g) (m : Command) → command_of (map string_bytes c.args.words.now) ≡ Some m
    → SaysAnswer m (g.D.Disk.view c.args.disk.now) (g.D.Disk.view c.obey.new.disk) c.obey.result
    (g.S.Sink.heard c.args.out.now) (g.S.Sink.heard c.obey.new.out)
says g c m e =
    says_answer-same (meant c.in-Some.command) m (command_of (map string_bytes c.args.words.now)) (g.D.Disk.view c.args.disk.now) (g.D.Disk.view c.obey.new.disk)
    c.obey.result (g.S.Sink.heard c.args.out.now) (g.S.Sink.heard c.obey.new.out) (obeyed g c) e c.obey.ensures.answer

pub returns-in-Some-clause-usage_only : goal.returns-in-Some-clause-usage_only
returns-in-Some-clause-usage_only g c is = absurd (never_usage (meant c.in-Some.command) _ _ c.obey.result _ _ c.obey.ensures.answer is)

pub returns-in-Some-clause-refused_only : goal.returns-in-Some-clause-refused_only
returns-in-Some-clause-refused_only g c is =
    (meant c.in-Some.command, obeyed g c, only_verify_refuses (meant c.in-Some.command) _ _ c.obey.result _ _ c.obey.ensures.answer is)

pub returns-in-Some-clause-list_only : goal.returns-in-Some-clause-list_only
returns-in-Some-clause-list_only g c is =
    (meant c.in-Some.command, obeyed g c, only_farm_lists (meant c.in-Some.command) _ _ c.obey.result _ _ c.obey.ensures.answer is)

pub returns-in-Some-clause-verify : goal.returns-in-Some-clause-verify
returns-in-Some-clause-verify g c id challenge proof k e = says g c (Verify id k challenge proof) e

pub returns-in-Some-clause-proofs : goal.returns-in-Some-clause-proofs
returns-in-Some-clause-proofs g c id challenge proof k e =
    tells_answer-same (meant c.in-Some.command) (Verify id k challenge proof) (command_of (map string_bytes c.args.words.now)) c.obey.result (obeyed g c) e c.obey.ensures.proofs

pub returns-in-Some-clause-plot : goal.returns-in-Some-clause-plot
returns-in-Some-clause-plot g c id file base k e = says g c (MakePlot id k file base) e

pub returns-in-Some-clause-plotting : goal.returns-in-Some-clause-plotting
returns-in-Some-clause-plotting g c id file base k e told =
    tells_plotting id k file base _ _ c.obey.result _ _ (says g c (MakePlot id k file base) e) told

pub returns-in-Some-clause-plot_status : goal.returns-in-Some-clause-plot_status
returns-in-Some-clause-plot_status g c id file base k e =
    is_plot_status id k file base _ _ c.obey.result _ _ (says g c (MakePlot id k file base) e)

pub returns-in-Some-clause-crash : goal.returns-in-Some-clause-crash
returns-in-Some-clause-crash g c id file base k e =
    ends_safely id k file base _ _ c.obey.result _ _ (says g c (MakePlot id k file base) e) (g.met.D.Disk.is_disk c.obey.new.disk)

pub returns-in-Some-clause-survey : goal.returns-in-Some-clause-survey
returns-in-Some-clause-survey g c file base k number n e = says g c (Survey k number n file base) e

pub returns-in-Some-clause-surveying : goal.returns-in-Some-clause-surveying
returns-in-Some-clause-surveying g c file base k number n e told =
    tells_survey k number n file base _ _ c.obey.result _ _ (says g c (Survey k number n file base) e) told

pub returns-in-Some-clause-survey_status : goal.returns-in-Some-clause-survey_status
returns-in-Some-clause-survey_status g c file base k number n e =
    is_survey_status k number n file base _ _ c.obey.result _ _ (says g c (Survey k number n file base) e)

pub returns-in-Some-clause-survey_crash : goal.returns-in-Some-clause-survey_crash
returns-in-Some-clause-survey_crash g c file base k number n e =
    survey_ends_safely k number n file base _ _ c.obey.result _ _ (says g c (Survey k number n file base) e) (g.met.D.Disk.is_disk c.obey.new.disk)

pub returns-in-Some-clause-farm : goal.returns-in-Some-clause-farm
returns-in-Some-clause-farm g c list challenge e = says g c (Farm list challenge) e

pub returns-in-Some-clause-farm_list : goal.returns-in-Some-clause-farm_list
returns-in-Some-clause-farm_list g c list challenge e tells =
    tells_list list challenge _ _ c.obey.result _ _ tells (says g c (Farm list challenge) e)

pub returns-in-Some-clause-farm_proof : goal.returns-in-Some-clause-farm_proof
returns-in-Some-clause-farm_proof g c list challenge e =
    names_no_false_proof list challenge _ _ c.obey.result _ _ (says g c (Farm list challenge) e)

pub returns-in-Some-clause-inspect : goal.returns-in-Some-clause-inspect
returns-in-Some-clause-inspect g c file e = says g c (Inspect file) e

pub returns-in-Some-clause-inspects : goal.returns-in-Some-clause-inspects
returns-in-Some-clause-inspects g c file e held = shows_header file _ _ c.obey.result _ _ held (says g c (Inspect file) e)

pub returns-in-Some-clause-prove : goal.returns-in-Some-clause-prove
returns-in-Some-clause-prove g c file challenge e = says g c (Prove file challenge) e

pub returns-in-Some-clause-quality : goal.returns-in-Some-clause-quality
returns-in-Some-clause-quality g c file challenge e = says g c (Quality file challenge) e

pub returns-in-Some-clause-lists : goal.returns-in-Some-clause-lists
returns-in-Some-clause-lists g c file challenge id k e held =
    says_the_proofs id k file challenge _ _ c.obey.result _ _ held (says g c (Prove file challenge) e)

pub returns-in-Some-clause-rates : goal.returns-in-Some-clause-rates
returns-in-Some-clause-rates g c file challenge id k e held =
    says_the_qualities id k file challenge _ _ c.obey.result _ _ held (says g c (Quality file challenge) e)

pub returns-in-Some-clause-whole_proofs : goal.returns-in-Some-clause-whole_proofs
returns-in-Some-clause-whole_proofs g c file challenge e held =
    says_of_whole_proofs file challenge _ _ c.obey.result _ _ held (says g c (Prove file challenge) e)

pub returns-in-Some-clause-whole_qualities : goal.returns-in-Some-clause-whole_qualities
returns-in-Some-clause-whole_qualities g c file challenge e held =
    says_of_whole_qualities file challenge _ _ c.obey.result _ _ held (says g c (Quality file challenge) e)

pub returns-in-Some-clause-no_false_proof : goal.returns-in-Some-clause-no_false_proof
returns-in-Some-clause-no_false_proof g c file challenge e =
    no_false_proof file challenge _ _ c.obey.result _ _ (says g c (Prove file challenge) e)

pub returns-in-Some-clause-proof_reads : goal.returns-in-Some-clause-proof_reads
returns-in-Some-clause-proof_reads g c file challenge e done =
    reads_for_proofs file challenge _ _ c.obey.result _ _ done (says g c (Prove file challenge) e)

pub returns-in-Some-clause-quality_reads : goal.returns-in-Some-clause-quality_reads
returns-in-Some-clause-quality_reads g c file challenge e done =
    reads_for_qualities file challenge _ _ c.obey.result _ _ done (says g c (Quality file challenge) e)

pub returns-in-Some-clause-any_file : goal.returns-in-Some-clause-any_file
returns-in-Some-clause-any_file g c file asks tells =
    any_file asks.0 file _ _ c.obey.result _ _ tells asks.2 (says g c asks.0 asks.1)

pub returns-in-Some-clause-damages : goal.returns-in-Some-clause-damages
returns-in-Some-clause-damages g c file challenge asks tells is =
    names_damage asks.0 file challenge _ _ c.obey.result _ _ tells is asks.2 asks.3 (says g c asks.0 asks.1)

pub returns-in-Some-clause-check : goal.returns-in-Some-clause-check
returns-in-Some-clause-check g c file n e = says g c (CheckPlot file n) e

pub returns-in-Some-clause-whole_check : goal.returns-in-Some-clause-whole_check
returns-in-Some-clause-whole_check g c file n e held =
    says_of_whole_check file n _ _ c.obey.result _ _ held (says g c (CheckPlot file n) e)

pub returns-in-Some-clause-checks : goal.returns-in-Some-clause-checks
returns-in-Some-clause-checks g c file id k n e held =
    says_the_summary id k n file _ _ c.obey.result _ _ held (says g c (CheckPlot file n) e)

pub returns-in-Some-clause-check_reads : goal.returns-in-Some-clause-check_reads
returns-in-Some-clause-check_reads g c file n e done =
    reads_for_check file n _ _ c.obey.result _ _ done (says g c (CheckPlot file n) e)

pub returns-in-Some-clause-check_damages : goal.returns-in-Some-clause-check_damages
returns-in-Some-clause-check_damages g c file n e tells is =
    names_check_damage file n _ _ c.obey.result _ _ tells is (says g c (CheckPlot file n) e)
