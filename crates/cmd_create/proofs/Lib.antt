mod FillLaws
mod MadeBetween
mod RawLaws
mod VhdLaws
