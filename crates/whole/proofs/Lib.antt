pub mod WholeJudged
